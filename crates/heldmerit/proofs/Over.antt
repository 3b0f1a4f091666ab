-- Values one after the other, and merit and residuals out of the values alone. Assumes nothing.
use Rattle.std.specs.Prelude.{◌≡◌, List, ◌++◌, Float, get_or, drop, replicate, Option, None}
use Rattle.std.proofs.Math.Path.{refl}
use Rattle.std.proofs.Common.{sym, ap, ◌∙◌, le_refl, add-one, arith}
use Prim.Native.Nat.{ℕ, zero, suc, ◌+◌, ◌-◌, ◌≤◌, ◌<◌}
use Rattle.std.specs.Float.{nan}
use Rattle.std.specs.Float.Ieee.{binary64, add}
use Rattle.std.proofs.Math.ListN.{get_or-append}
use Rattle.floats.specs.Constants.{zero64}
use Rattle.lists.specs.Tab.{tab, length-tab, get_or-tab, tab-same, drop-replicate}
use Rattle.optics.specs.Properties.{paraxial_of}
use Rattle.optics.specs.declared.types.OpticalSurface.{OpticalSurface}
use Rattle.optics.specs.declared.types.ParaxialProperties.{ParaxialProperties}
use Rattle.merit.specs.Evaluation.{residual, term, counted_total, entries, values_after, value_at, total, evaluation_of}
use Rattle.merit.proofs.EvaluationLaws.{values-after}
use Rattle.merit.specs.OperandTable.{operand_at}
use Rattle.merit.specs.Operands.{value_of}
use Rattle.merit.specs.Steps.{SlotsKnown}
use Rattle.merit.proofs.ValueLaws.{value_same}
use Rattle.heldmerit.specs.Over.{terms_over, residual_over}
use Rattle.merit.specs.declared.types.MeritFunction.{MeritFunction}
use Rattle.merit.specs.declared.types.MeritOperand.{MeritOperand}

module _ (f : MeritFunction) (values : List Float) where
  pub terms-more : (n : ℕ) (sum product : Float) → sum ≡ terms_over f values n → product ≡ term (operand_at f n) (get_or values n nan)
      → add binary64 sum product ≡ terms_over f values (n + 1)
  unfolding terms_over
  terms-more n sum product e t = rw (add-one, e, t)

-- n values stand, and zeros after them
abbrev pub Standing : (ℕ → Float) → ℕ → List Float → Type 0
Standing value n values = values ≡ tab value n ++ drop n (replicate 12 zero64)

pub all-stand : (value : ℕ → Float) (m n : ℕ) (values : List Float) → Standing value n values → n ≡ m → values ≡ entries value m
all-stand value m n values e h =
    e ∙ ap (λ (k : ℕ). tab value k ++ drop k (replicate 12 zero64)) h ∙ ap (λ (l : List Float). tab value m ++ l) (drop-replicate zero64 m 12)

-- value n, out of the traces of the slots and the values before it
module _ (surface : ℕ → OpticalSurface) (index : ℕ → ℕ → Float) (pupil : Float) (count : ℕ) (f : MeritFunction) where
  pub value-next : (slots : List (Option ParaxialProperties)) (earlier : List Float) (n : ℕ) (o : MeritOperand) (r : Float)
      → SlotsKnown f → n < f.operand_count → n ≤ 12
      → ((w : ℕ) → w < 4 → get_or slots w None ≡ paraxial_of surface (index w) pupil count) → Standing (value_at surface index pupil count f) n earlier → o
      ≡ operand_at f n
      → r ≡ value_of earlier (λ (w : ℕ). get_or slots w None) surface count o.operand_type → r ≡ value_at surface index pupil count f n
  value-next slots earlier n o r known more room traced stand is e =
      let before : earlier ≡ values_after surface index pupil count f n =
      all-stand (value_at surface index pupil count f) n n earlier stand refl ∙ sym (values-after surface index pupil count f n room) in
      e
      ∙ (λ i. value_of (before i) (λ (w : ℕ). get_or slots w None) surface count (is i).operand_type)
      ∙ value_same _ _ _ _ _ _ (known n more) (traced _)

-- of the values of a lens merit and residuals are the lens's
module _ (surface : ℕ → OpticalSurface) (index : ℕ → ℕ → Float) (pupil : Float) (count : ℕ) (f : MeritFunction) where
  value-stands : (n : ℕ) → n < f.operand_count → get_or (evaluation_of surface index pupil count f).values n nan ≡ value_at surface index pupil count f n
  value-stands n h =
      get_or-append (tab (value_at surface index pupil count f) f.operand_count) (replicate (12 - f.operand_count) zero64) nan n
      (rw (length-tab (value_at surface index pupil count f) f.operand_count) h)
      ∙ get_or-tab (value_at surface index pupil count f) f.operand_count n nan h

  terms-are : (n : ℕ) → n ≤ f.operand_count → terms_over f (evaluation_of surface index pupil count f).values n ≡ total surface index pupil count f n
  unfolding terms_over total
  terms-are zero h = refl
  terms-are (suc n) h = λ i. add binary64 (terms-are n (omega arith) i) (term (operand_at f n) (value-stands n h i))

  pub merit-over : (values : List Float) → values ≡ (evaluation_of surface index pupil count f).values
      → counted_total (terms_over f values f.operand_count) ≡ (evaluation_of surface index pupil count f).total_merit
  merit-over values e =
      ap (λ (l : List Float). counted_total (terms_over f l f.operand_count)) e ∙ ap counted_total (terms-are f.operand_count (le_refl _))

  pub residuals-over : (values : List Float) → values ≡ (evaluation_of surface index pupil count f).values
      → entries (residual_over f values) f.operand_count ≡ (evaluation_of surface index pupil count f).residuals
  residuals-over values e =
      ap (λ (l : List Float). entries (residual_over f l) f.operand_count) e
      ∙ ap (λ (l : List Float). l ++ replicate (12 - f.operand_count) zero64)
      (tab-same _ _ f.operand_count (λ n h. ap (residual (operand_at f n)) (value-stands n h)))
