-- Why a run's end and lists are the defined ones.
pub mod Tabled
pub mod Breaks
pub mod Values
pub mod Statements
pub mod Ranges
pub mod Takes
pub mod Engine
pub mod Clashes
pub mod Sharing
pub mod Telling
pub mod Tells
pub mod Adding
pub mod Entering
pub mod Asserting
pub mod Ending
