pub mod Clips
pub mod Text
pub mod Pages
