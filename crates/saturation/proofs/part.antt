pub mod Fronts
pub mod Listed
