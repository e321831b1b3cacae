-- The figure of a book: the book with all individuals made one; the rules on classes and roles alone; the figure and its answer. Then what the
-- code goes by.
pub mod MadeOne
pub mod Outline
pub mod Figure
pub mod Wide
pub mod Record
pub mod Clause
pub mod State
pub mod Cursor
pub mod Growing
