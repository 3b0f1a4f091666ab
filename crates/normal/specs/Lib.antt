-- One damped iteration: the Jacobian, the normal equations, the damped system, elimination, the step.
pub mod Layout
pub mod Jacobian
pub mod Products
pub mod Damping
pub mod Elimination
pub mod Step
pub mod Scratch
pub mod Loops
