pub mod Steps
pub mod Writes
pub mod Room
pub mod Refusals
pub mod Sends
