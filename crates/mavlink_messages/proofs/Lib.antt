pub mod Octets
pub mod Signed
pub mod Written
pub mod Answers
pub mod Formats
pub mod Edges
