-- One statement after the other.
pub mod Left
