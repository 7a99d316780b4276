pub mod Dynamic202
pub mod Traffic246
pub mod Messages
