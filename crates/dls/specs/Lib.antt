pub mod DampedSteps
pub mod Found
pub mod RunWith
