pub mod Parts
pub mod Structs
pub mod Ranges
pub mod Static
pub mod Agree
pub mod Readers
pub mod OneKind
pub mod Writers
