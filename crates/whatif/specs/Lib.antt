-- What a further statement would do: rows of a list that do not stand in another, a run that goes on with one statement more, and the answer.
pub mod Minus
pub mod Further
pub mod Begun
pub mod Answer
