pub mod Decimal
pub mod Octets
pub mod Whole
pub mod Longest
pub mod Runs
pub mod Slices
