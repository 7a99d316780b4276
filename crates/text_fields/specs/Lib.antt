pub mod Fields
pub mod Templates
