-- A run, its open functions, and what they leave.
pub mod Told
pub mod Run
pub mod Part
pub mod Lists
