pub mod Gathers
pub mod Counting
pub mod Writing
pub mod Rows
pub mod Words
pub mod Room
pub mod Views
