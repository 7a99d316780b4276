pub mod Frame
pub mod Reader
pub mod Writer
pub mod Steps
