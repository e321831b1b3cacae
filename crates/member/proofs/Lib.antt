pub mod True
pub mod False
pub mod Judged
pub mod Examples
