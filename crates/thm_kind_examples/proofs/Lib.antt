pub mod Tests
pub mod Ucp
pub mod Mavlink
pub mod Squawks
pub mod Emitters
