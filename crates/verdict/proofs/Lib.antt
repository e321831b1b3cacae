-- What the tally of a table is.
pub mod Tally
