-- Why the program's answer is the defined one.
pub mod Answers
