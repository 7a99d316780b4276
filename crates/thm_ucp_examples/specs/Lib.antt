pub mod Examples
pub mod LinePremises
pub mod ReachPremises
