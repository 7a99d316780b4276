pub mod Edges
mod Digits
pub mod Squawks
