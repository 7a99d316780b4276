pub mod Ends
pub mod Edges
