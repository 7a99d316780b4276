pub mod Stored
pub mod Held
pub mod Framed
pub mod Agree
pub mod Marks
