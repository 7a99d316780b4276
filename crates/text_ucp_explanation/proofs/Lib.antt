pub mod Longest
pub mod Verdicts
pub mod Continuation
