pub mod Receiver
pub mod Slices
pub mod Writer
pub mod Delivery
pub mod Lines
pub mod Refusals
