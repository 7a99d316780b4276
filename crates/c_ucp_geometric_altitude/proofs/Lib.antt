pub mod Stored
pub mod Agree
