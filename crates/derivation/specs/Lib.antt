-- Derivations (request No. 6): rows of nine numbers; when a row is accepted; how many rows stand.
pub mod Rows
pub mod Accept
pub mod Fits
pub mod Chained
pub mod Tables
pub mod Collected
pub mod Pairs
pub mod Entry
pub mod Entering
pub mod Denied
pub mod Judging
pub mod Examples
