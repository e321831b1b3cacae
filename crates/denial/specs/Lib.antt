-- What statements deny.
pub mod Denied
