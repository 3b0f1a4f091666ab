use mathlib.Core.Path.{◌≡◌, refl, sym, ◌∙◌}
use Prim.Native.Nat.{ℕ, zero, suc, ◌-◌, ◌<◌}
use native.Mathlib.Omega.{arith}
use lib.IntN.{pos}
use lib.Ieee.{Float, binary64, add, mul, div, of_int}
use Rattle.floats.specs.Exp.{series}
use Rattle.floats.specs.Constants.{one64}
use Rattle.floats.proofs.exp.terms.Goals as goal

step : (k : ℕ) (y s : Float) → 0 < k → series (k - 1) y (add binary64 one64 (div binary64 (mul binary64 y s) (of_int binary64 (pos k)))) ≡ series k y s
unfolding series
step zero y s h = absurd (no h)
  where
    no : 0 < 0 → ⊥
    no h = omega arith
step (suc k) y s h = λ i. series (less k i) y (add binary64 one64 (div binary64 (mul binary64 y s) (of_int binary64 (pos (suc k)))))
  where
    less : (k : ℕ) → suc k - 1 ≡ k
    less k = omega arith

none : (k : ℕ) (y s : Float) → k < 1 → series k y s ≡ s
unfolding series
none zero y s h = refl
none (suc k) y s h = absurd (no k h)
  where
    no : (k : ℕ) → suc k < 1 → ⊥
    no k h = omega arith

pub loop-k-preserved : goal.loop-k-preserved
loop-k-preserved c = rw c.from.ensures (step c.loop-k.k c.args.y c.loop-k.s (omega arith) ∙ c.loop-k.invariant)

pub returns : goal.returns
returns c = sym (none c.loop-k.k c.args.y c.loop-k.s (omega arith)) ∙ c.loop-k.invariant
