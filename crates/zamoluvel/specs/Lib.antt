-- What the functions for callers in C return.
pub mod Is
pub mod WhatIf
pub mod Need
pub mod Run
pub mod Write
pub mod Rows
