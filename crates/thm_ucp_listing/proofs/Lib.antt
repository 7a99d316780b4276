pub mod Input
pub mod Calls
pub mod Blocks
pub mod Example
