pub mod BitNumbers
pub mod Strength
pub mod Reach
pub mod Limits
pub mod Premises
