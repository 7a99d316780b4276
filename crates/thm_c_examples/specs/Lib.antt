pub mod Structs
pub mod Premises
pub mod Numbers
