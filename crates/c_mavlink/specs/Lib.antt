pub mod Structs
pub mod Readers
pub mod Ids
pub mod Writers
pub mod Failures
pub mod OneKind
pub mod Steps
