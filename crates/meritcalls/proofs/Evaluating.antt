-- The loop that evaluates one operand after another. Assumes nothing.
use mathlib.Core.Path.{◌≡◌, refl, ap, ◌∙◌}
use mathlib.Core.List.{List, ◌++◌}
use Prim.Native.Nat.{ℕ, ◌+◌, ◌≤◌, ◌<◌}
use native.Mathlib.Numerals.{add-one}
use native.Mathlib.Omega.{arith}
use lib.ListN.{length, set, drop, replicate, length-set}
use lib.Ieee.{Float, nan, binary64, add, mul}
use Rattle.floats.specs.Constants.{zero64}
use Rattle.floats.specs.Sqrt.{sqrt_of}
use Rattle.lists.specs.Tab.{tab, tab-step, drop-replicate}
use Rattle.optics.specs.declared.types.OpticalSurface.{OpticalSurface}
use Rattle.merit.specs.Evaluation.{difference, residual, entries, value_at, residual_at, term, total, counted_total, evaluation_of}
use Rattle.merit.specs.OperandTable.{operand_at}
use Rattle.merit.specs.declared.types.MeritEvaluation.{MeritEvaluation}
use Rattle.merit.specs.declared.types.MeritFunction.{MeritFunction}
use Rattle.merit.specs.declared.types.MeritOperand.{MeritOperand}

-- one operand's residual and term
module _ (o : MeritOperand) {value value' d : Float} (v : value ≡ value') (is : d ≡ difference o value) where
  pub residual-is : {root : Float} → root ≡ sqrt_of o.weight → mul binary64 root d ≡ residual o value'
  unfolding residual
  residual-is r = rw (r, is, v)

  pub term_is : mul binary64 (mul binary64 o.weight d) d ≡ term o value'
  unfolding term
  term_is = rw (is, v)

module _ (surface : ℕ → OpticalSurface) (index : ℕ → ℕ → Float) (pupil : Float) (count : ℕ) (function : MeritFunction) (values₀ residuals₀ : List Float) where
  -- n operands are done
  pub record Evaluated (values residuals : List Float) (sum : Float) (n : ℕ) : Type 0 where
    pub most : n ≤ function.operand_count
    pub long : length values ≡ length values₀
    pub wide : length residuals ≡ length residuals₀
    pub worth : values ≡ tab (value_at surface index pupil count function) n ++ drop n values₀
    pub weighed : residuals ≡ tab (residual_at surface index pupil count function) n ++ drop n residuals₀
    pub summed : sum ≡ total surface index pupil count function n

  pub first : Evaluated values₀ residuals₀ zero64 0
  unfolding tab total
  first = record { most = omega arith; long = refl; wide = refl; worth = refl; weighed = refl; summed = refl }

  module _ (values residuals : List Float) (sum : Float) (n : ℕ) (more : n < function.operand_count) (value residual product : Float)
      (room : n < length values₀) (space : n < length residuals₀)
      (v : value ≡ value_at surface index pupil count function n) (r : residual ≡ residual_at surface index pupil count function n)
      (t : product ≡ term (operand_at function n) (value_at surface index pupil count function n)) where
    pub next : Evaluated values residuals sum n → Evaluated (set values n value) (set residuals n residual) (add binary64 sum product) (n + 1)
    unfolding total
    next e = record {
      most = omega arith;
      long = length-set values n value ∙ e.long;
      wide = length-set residuals n residual ∙ e.wide;
      worth = tab-step (value_at surface index pupil count function) values₀ values n value nan e.worth v room;
      weighed = tab-step (residual_at surface index pupil count function) residuals₀ residuals n residual nan e.weighed r space;
      summed = rw (add-one, e.summed, t);
    }

  -- the values so far, where all were zero at first
  pub laid : (values residuals : List Float) (sum : Float) (n : ℕ) → Evaluated values residuals sum n → values₀ ≡ replicate 12 zero64 → n < 12 → values
      ≡ entries (value_at surface index pupil count function) n
  laid values residuals sum n e p h =
      e.worth ∙ ap (λ (l : List Float). tab (value_at surface index pupil count function) n ++ l) (ap (drop n) p ∙ drop-replicate zero64 n 12)

  -- zero past the counts
  pub last : (values residuals : List Float) (sum : Float) → values₀ ≡ replicate 12 zero64 → residuals₀ ≡ replicate 12 zero64
      → Evaluated values residuals sum function.operand_count → (merit : Float) → merit ≡ counted_total sum
      → ◌≡◌ {A = MeritEvaluation} (record { values = values; residuals = residuals; total_merit = merit }) (evaluation_of surface index pupil count function)
  last values residuals sum p q e merit m = λ i. record {
    values = (e.worth ∙ ap (λ (l : List Float). tab (value_at surface index pupil count function) function.operand_count ++ l)
        (ap (drop function.operand_count) p ∙ drop-replicate zero64 function.operand_count 12)) i;
    residuals =
        (e.weighed ∙ ap (λ (l : List Float). tab (residual_at surface index pupil count function) function.operand_count ++ l)
        (ap (drop function.operand_count) q ∙ drop-replicate zero64 function.operand_count 12)) i;
    total_merit = (m ∙ ap counted_total e.summed) i;
  }
