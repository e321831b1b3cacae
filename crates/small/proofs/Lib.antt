pub mod Order
pub mod Statements
pub mod Laying
pub mod Places
pub mod Read
pub mod Listed
pub mod Examples
mod Handing
