-- `kinds::bounds::multi_start_bound` meets its contract. Assumes nothing.
use Prim.Native.Nat.{ℕ, ◌+◌, ◌*◌, ◌≤◌}
use mathlib.Core.Path.{ap}
use native.Mathlib.Nat.{mul-le-mul}
use native.Mathlib.Omega.{arith}
use Rattle.kinds.proofs.Iteration.{iteration-le}
use Rattle.kinds.proofs.bounds.multi_start_bound.Goals as goal

pub overflow_mul-result : goal.overflow_mul-result
overflow_mul-result c =
    let inner = mul-le-mul c.requires.1 (iteration-le c.args.p c.requires.2) in
    let trials : 1 + c.args.trials ≤ 1001 = omega arith in
    let each : c.damped_bound.result ≤ 26001 = omega (arith, c.damped_bound.ensures, inner) in
    omega (arith, mul-le-mul trials each)

pub returns : goal.returns
returns c = ap (λ (n : ℕ). (1 + c.args.trials) * n) c.damped_bound.ensures
