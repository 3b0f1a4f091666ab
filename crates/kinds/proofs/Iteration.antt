-- How many merits an iteration has at most. Assumes nothing.
use Prim.Native.Nat.{ℕ, ◌+◌, ◌*◌, ◌≤◌}
use native.Mathlib.Omega.{arith}

pub iteration-le : (p : ℕ) → p ≤ 8 → 2 * p + 10 ≤ 26
iteration-le p h = omega arith
