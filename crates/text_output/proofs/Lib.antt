pub mod Clipped
pub mod Signs
pub mod Printed
pub mod Numerals
pub mod Longest
