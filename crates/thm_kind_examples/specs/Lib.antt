pub mod Octets
pub mod Ucp
pub mod Mavlink
pub mod Squawks
pub mod Emitters
