-- What a further statement would do (No. 13): the copy of a book with one record more, and what its run has that the present run has not.
pub mod Copy
pub mod Effect
pub mod Trials
