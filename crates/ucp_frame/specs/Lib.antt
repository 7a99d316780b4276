pub mod Frame
pub mod Stretch
