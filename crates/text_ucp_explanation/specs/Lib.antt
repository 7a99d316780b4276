pub mod Explanation
pub mod Calls
