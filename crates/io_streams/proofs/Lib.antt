pub mod Gathering
pub mod Turns
