pub mod LinkedMavlink
pub mod Demands
