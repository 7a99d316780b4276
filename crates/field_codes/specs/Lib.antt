pub mod Codes
pub mod Squawks
pub mod Edges
