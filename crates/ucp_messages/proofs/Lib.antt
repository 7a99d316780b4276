pub mod Uplink
pub mod Formats
pub mod BodyKind
pub mod Payload
