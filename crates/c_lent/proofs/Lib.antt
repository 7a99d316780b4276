pub mod Answers
pub mod Octets
pub mod Sizes
pub mod Structs
pub mod Writers
pub mod Sends
