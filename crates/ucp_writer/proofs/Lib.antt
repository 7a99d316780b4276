pub mod Rest
pub mod Head
pub mod Sends
