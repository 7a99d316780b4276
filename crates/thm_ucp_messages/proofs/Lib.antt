pub mod ReadBack
pub mod WriteBack
pub mod ReadTyped
pub mod Delivery
