pub mod AdmissionLaws
pub mod Placed
pub mod Play
pub mod PlayLaws
pub mod Once
