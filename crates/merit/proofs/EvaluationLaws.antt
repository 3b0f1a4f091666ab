-- What callers may use of an evaluation: it looks only at what is below the counts, and its total is finite. Assumes nothing.
use Rattle.std.specs.Prelude.{◌≡◌, Bool, true, false, cond, T, Float, replicate}
use Rattle.std.proofs.Math.Path.{refl, ap}
use Rattle.std.proofs.Common.{◌∙◌, arith, add-one}
use mathlib.Core.List.{List, ◌++◌}
use Prim.Native.Nat.{ℕ, zero, suc, ◌-◌, ◌≤◌, ◌<◌}
use Rattle.std.specs.Float.Ieee.{nan, of_bits, binary64, add}
use Rattle.std.proofs.Math.ListN.{set, drop, length-replicate}
use Rattle.floats.specs.Basic.{finite_of}
use Rattle.floats.specs.Constants.{zero64}
use Rattle.floatlaws.specs.CallerLaws.{finite-test}
use Rattle.floatlaws.specs.Fractions.{Finite}
use Rattle.lists.specs.Tab.{tab, tab-same, tab-step, drop-replicate}
use Rattle.optics.specs.Properties.{paraxial_of}
use Rattle.optics.specs.TraceLaws.{paraxial-same}
use Rattle.optics.specs.declared.types.OpticalSurface.{OpticalSurface}
use Rattle.merit.specs.Evaluation.{residual, term, overflow_merit, counted_total, entries, values_after, value_at, residual_at, total, evaluation_of}
use Rattle.merit.specs.OperandTable.{operand_at}
use Rattle.merit.specs.Operands.{value_of}
use Rattle.merit.specs.Steps.{slot_of, SlotsKnown}
use Rattle.merit.proofs.ValueLaws.{value_same, value-below}
use Rattle.merit.specs.declared.types.MeritFunction.{MeritFunction}
use Rattle.merit.specs.declared.types.MeritOperand.{MeritOperand}

-- ---- the total is always finite
pub overflow-finite : Finite overflow_merit
unfolding overflow_merit of_bits
overflow-finite = tt

pub counted-finite : (x : Float) → Finite (counted_total x)
unfolding counted_total
counted-finite x = go (finite_of x) (finite-test x)
  where
    go : (b : Bool) → (T b → Finite x) → Finite (cond b x overflow_merit)
    go true h = h tt
    go false h = overflow-finite

module _ (surface : ℕ → OpticalSurface) (index : ℕ → ℕ → Float) (pupil : Float) (count : ℕ) (f : MeritFunction) where
  pub total-finite : Finite (evaluation_of surface index pupil count f).total_merit
  total-finite = counted-finite (total surface index pupil count f f.operand_count)

  -- the values after n operands are those of the n, and zero
  values-are : (n : ℕ) → n ≤ 12 → values_after surface index pupil count f n ≡ tab (value_at surface index pupil count f) n ++ drop n (replicate 12 zero64)
  unfolding values_after tab
  values-are zero h = refl
  values-are (suc n) h =
      tab-step (value_at surface index pupil count f) (replicate 12 zero64) (values_after surface index pupil count f n) n
      (value_at surface index pupil count f n)
      nan (values-are n (omega arith)) refl (rw length-replicate h)
      ∙ ap (λ (k : ℕ). tab (value_at surface index pupil count f) k ++ drop k (replicate 12 zero64)) (add-one n)

  pub values-after : (n : ℕ) → n ≤ 12 → values_after surface index pupil count f n ≡ entries (value_at surface index pupil count f) n
  values-after n h = values-are n h ∙ ap (λ (l : List Float). tab (value_at surface index pupil count f) n ++ l) (drop-replicate zero64 n 12)

  -- "no operands gives merit +0.0"
  pub no-operands : f.operand_count ≡ 0 → (evaluation_of surface index pupil count f).total_merit ≡ zero64
  unfolding total counted_total finite_of of_bits
  no-operands e = rw e refl

-- ---- two lenses that agree below the count, under two functions that agree below theirs
module _ (surface surface' : ℕ → OpticalSurface) (index index' : ℕ → ℕ → Float) (pupil : Float) (count : ℕ) (f g : MeritFunction)
    (same : (i : ℕ) → i < count → surface i ≡ surface' i)
    (alike : (n i : ℕ) → n < f.operand_count → slot_of f n < 4 → i < count → index (slot_of f n) i ≡ index' (slot_of f n) i)
    (known : SlotsKnown f)
    (many : f.operand_count ≡ g.operand_count)
    (agree : (n : ℕ) → n < f.operand_count → operand_at f n ≡ operand_at g n) where
  value-by : (earlier : List Float) (n : ℕ) → n < f.operand_count →
      value_of earlier (λ (w : ℕ). paraxial_of surface (index w) pupil count) surface count (operand_at f n).operand_type
      ≡ value_of earlier (λ (w : ℕ). paraxial_of surface' (index' w) pupil count) surface' count (operand_at g n).operand_type
  value-by earlier n h =
      value_same earlier _ (λ (w : ℕ). paraxial_of surface' (index' w) pupil count) surface count _ (known n h)
      (λ l. paraxial-same surface surface' _ _ pupil count same (λ i m. alike n i h l m))
      ∙ value-below earlier (λ (w : ℕ). paraxial_of surface' (index' w) pupil count) surface surface' count same _
      ∙ ap (λ (o : MeritOperand). value_of earlier (λ (w : ℕ). paraxial_of surface' (index' w) pupil count) surface' count o.operand_type) (agree n h)

  values_agree : (n : ℕ) → n ≤ f.operand_count → values_after surface index pupil count f n ≡ values_after surface' index' pupil count g n
  unfolding values_after
  values_agree zero h = refl
  values_agree (suc n) h =
      let e = values_agree n (omega arith) in
      λ i. set (e i) n ((value-by (values_after surface index pupil count f n) n h
      ∙ ap (λ (l : List Float). value_of l (λ (w : ℕ). paraxial_of surface' (index' w) pupil count) surface' count (operand_at g n).operand_type) e) i)

  value-agrees : (n : ℕ) → n < f.operand_count → value_at surface index pupil count f n ≡ value_at surface' index' pupil count g n
  value-agrees n h =
      value-by (values_after surface index pupil count f n) n h
      ∙ ap (λ (l : List Float). value_of l (λ (w : ℕ). paraxial_of surface' (index' w) pupil count) surface' count (operand_at g n).operand_type)
      (values_agree n (omega arith))

  total-agrees : (n : ℕ) → n ≤ f.operand_count → total surface index pupil count f n ≡ total surface' index' pupil count g n
  unfolding total
  total-agrees zero h = refl
  total-agrees (suc n) h = λ i. add binary64 (total-agrees n (omega arith) i) (term (agree n h i) (value-agrees n h i))

  entries-agree : (r s : ℕ → Float) → ((n : ℕ) → n < f.operand_count → r n ≡ s n) → entries r f.operand_count ≡ entries s g.operand_count
  entries-agree r s h = λ i. (tab-same r s f.operand_count h ∙ ap (tab s) many) i ++ replicate (12 - many i) zero64

  pub evaluation-same : evaluation_of surface index pupil count f ≡ evaluation_of surface' index' pupil count g
  evaluation-same = λ i. record {
    values = entries-agree (value_at surface index pupil count f) (value_at surface' index' pupil count g) value-agrees i;
    residuals =
        entries-agree (residual_at surface index pupil count f) (residual_at surface' index' pupil count g)
        (λ n h. λ j. residual (agree n h j) (value-agrees n h j)) i;
    total_merit = counted_total ((total-agrees f.operand_count (omega arith) ∙ ap (total surface' index' pupil count g) many) i);
  }
