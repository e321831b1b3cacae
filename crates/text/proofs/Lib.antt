-- Why the texts are the defined ones.
pub mod Puts
