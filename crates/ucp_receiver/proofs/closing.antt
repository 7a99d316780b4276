pub mod Laws
pub mod Copied
