pub mod Searches
pub mod Blank
pub mod Markings
pub mod Clashes
