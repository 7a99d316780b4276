pub mod Digits
pub mod RoundTrips
pub mod Elements
