pub mod EachKind
pub mod RoundTrips
pub mod Delivery
pub mod Refusals
