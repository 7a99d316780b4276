pub mod Bits
pub mod Shape
pub mod Parity
pub mod Caught
pub mod Limits
pub mod Premises
