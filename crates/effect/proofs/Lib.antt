pub mod Kept
pub mod Difference
pub mod Moved
pub mod Copied
pub mod Effect
pub mod Trials
