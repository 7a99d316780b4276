pub mod Octet
pub mod Answers
pub mod Closing
pub mod Steps
pub mod Account
pub mod Slice
