pub mod Turns
pub mod Words
pub mod LaneLaws
pub mod Computed
pub mod Linear
pub mod Inverse
pub mod Carried
pub mod JumpLaws
