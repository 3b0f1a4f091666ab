-- `kinds::bounds::damped_bound` meets its contract. Assumes nothing.
use native.Mathlib.Nat.{mul-le-mul}
use native.Mathlib.Omega.{arith}
use Rattle.kinds.proofs.Iteration.{iteration-le}
use Rattle.kinds.proofs.bounds.damped_bound.Goals as goal

pub overflow_mul-result-2 : goal.overflow_mul-result-2
overflow_mul-result-2 c = omega (arith, mul-le-mul c.requires.0 (iteration-le c.args.p c.requires.1))

pub overflow_add-result-2 : goal.overflow_add-result-2
overflow_add-result-2 c = omega (arith, mul-le-mul c.requires.0 (iteration-le c.args.p c.requires.1))
