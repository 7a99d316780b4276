pub mod Examples
pub mod Frames
pub mod RoundTrips
pub mod Tabled
