-- The figure bounds every run, and equals a closure on classes and roles alone. Then the laws of the code.
pub mod One
pub mod Spread
pub mod Folded
pub mod Bound
pub mod Figure
pub mod Queueing
pub mod Clauses
pub mod Chains
pub mod Closing
pub mod Choosing
pub mod Wide
pub mod Giving
pub mod Fields
pub mod Starts
pub mod Records
pub mod Starting
