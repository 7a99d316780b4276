pub mod Columns
pub mod Heads
pub mod Formats
pub mod ByOctets
pub mod Conjunction
