pub mod Signed
pub mod Negative
