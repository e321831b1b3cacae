-- Every book with one class, one role, two individuals, the concept Atomic 0 and at most two statements.
pub mod Statements
pub mod Books
pub mod Laying
pub mod Answer
