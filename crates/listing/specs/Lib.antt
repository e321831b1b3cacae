-- Listings of a run (requests No. 6 and No. 10).
pub mod Listing
pub mod Clashes
pub mod Denials
pub mod Told
pub mod Joins
pub mod Filled
pub mod Running
