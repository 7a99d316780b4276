pub mod Step
pub mod Pair
pub mod Eight
pub mod Head
pub mod Steps
pub mod Words
