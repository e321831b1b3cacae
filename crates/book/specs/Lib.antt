-- What a book means, in the layers of 01's section "The book".
pub mod Unlisted
pub mod Refusal
pub mod Role
pub mod Read
pub mod Field
pub mod Table
pub mod Header
pub mod Concept
pub mod Statement
pub mod Tree
pub mod Book
pub mod Reader
pub mod Within
pub mod Bytes
