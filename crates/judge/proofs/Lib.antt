-- What is shown by what a run leaves is what the definition says; and the answers of the open functions.
pub mod Agree
pub mod Asked
