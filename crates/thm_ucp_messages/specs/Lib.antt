pub mod Typed
pub mod RoundTrips
pub mod Delivery
