pub mod Line
pub mod Lines
pub mod Promises
pub mod Slice
pub mod Refusals
