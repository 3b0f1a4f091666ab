-- `floats::exp::power` meets its contract: what is left to square comes to the whole. Assumes nothing.
use mathlib.Core.Path.{◌≡◌, sym, ap, ◌∙◌}
use Prim.Native.Nat.{ℕ, suc, ◌+◌, ◌-◌, ◌<◌}
use native.Mathlib.Omega.{arith}
use lib.Ieee.{Float, binary64, mul}
use Rattle.floats.specs.Exp.{squares}
use Rattle.floats.proofs.exp.power.Goals as goal

step : (m k : ℕ) (s : Float) → k < m → squares (m - (k + 1)) (mul binary64 s s) ≡ squares (m - k) s
unfolding squares
step m k s h = let e : m - k ≡ suc (m - (k + 1)) = omega arith in sym (ap (λ (z : ℕ). squares z s) e)

none : (m : ℕ) (s : Float) → m ≡ 0 → squares m s ≡ s
unfolding squares
none m s e = ap (λ (z : ℕ). squares z s) e

pub loop-preserved : goal.loop-preserved
loop-preserved c = step 10 c.loop.counter c.loop.s (omega arith) ∙ c.loop.invariant

pub returns : goal.returns
returns c = sym (none (10 - c.loop.counter) c.loop.s (omega arith)) ∙ c.loop.invariant
