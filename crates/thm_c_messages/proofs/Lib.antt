pub mod Accepted
pub mod Structs
pub mod EachKind
pub mod Tests
pub mod Refusals
pub mod Delivery
