pub mod Struct
pub mod Sends
