mod Marks
mod Filled
pub mod Longest
pub mod Taken
