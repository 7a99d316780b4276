pub mod Refusals
pub mod MessageRefusals
pub mod ReaderRefusals
pub mod MavlinkRefusals
pub mod LinkedMavlink
pub mod Demands
