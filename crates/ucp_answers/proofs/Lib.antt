pub mod Writers
pub mod Readers
pub mod Refusals
pub mod Answers
pub mod RoundTrips
