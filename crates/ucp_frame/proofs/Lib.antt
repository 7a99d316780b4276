pub mod Stuffing
pub mod Unstuffing
pub mod Frame
