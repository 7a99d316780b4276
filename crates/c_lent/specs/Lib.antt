pub mod Structs
pub mod Reads
pub mod Writes
pub mod Steps
pub mod Sends
