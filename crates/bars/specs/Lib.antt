-- What the test program sees in the lists.
pub mod Rest
