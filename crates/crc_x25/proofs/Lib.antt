pub mod Step
pub mod Shifts
pub mod Words
pub mod CrcCode
