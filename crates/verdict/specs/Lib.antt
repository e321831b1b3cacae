-- Clash, same pairs, lists and end, of tables.
pub mod Listing
pub mod Verdict
pub mod Conclude
