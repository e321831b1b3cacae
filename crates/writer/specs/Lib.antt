-- A book cleaned: which statements stay, its bytes, and what the writer answers and leaves. Then what its code keeps on the way.
pub mod Kept
pub mod Written
pub mod Record
pub mod Tree
pub mod Gathering
pub mod Lay
pub mod Located
