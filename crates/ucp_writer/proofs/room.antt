pub mod Length
pub mod Due
