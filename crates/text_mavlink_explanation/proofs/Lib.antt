pub mod Longest
pub mod Appended
pub mod Used
