pub mod Check
pub mod CrcCode
