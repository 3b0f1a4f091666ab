pub mod Over
pub mod HeldOver
