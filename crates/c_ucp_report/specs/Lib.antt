pub mod Struct
pub mod Parts
