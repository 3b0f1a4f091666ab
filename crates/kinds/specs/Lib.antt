pub mod Limits
pub mod Methods
pub mod Phases
