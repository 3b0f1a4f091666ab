-- The merit of a lens: `Operands` (values; the edge operand's by `edges`), `Evaluation` (residuals and total), `Check` (refusal 5), `Calls` (evaluate and
-- trace).
pub mod OperandTable
pub mod Operands
pub mod Evaluation
pub mod Check
pub mod Calls
-- Laws for callers.
-- Steps of the proofs.
pub mod Steps
pub mod Passing
