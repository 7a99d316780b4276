pub mod Reports
pub mod Messages
