-- The laws of the code: rows, what a record starts from, the memo; and what is shown by the table and the rows of a run.
pub mod Words
pub mod Reading
pub mod Starting
pub mod Judging
pub mod Agree
