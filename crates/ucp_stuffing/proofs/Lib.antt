mod Plain
mod Lengths
pub mod Both
