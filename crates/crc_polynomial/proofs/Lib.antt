pub mod Xor
pub mod Laws
pub mod Linear
pub mod Shifts
pub mod Wide
