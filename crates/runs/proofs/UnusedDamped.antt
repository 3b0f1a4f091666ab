-- The damped part keeps what it does not use at zero. Assumes nothing but what is named.
use Rattle.std.specs.Prelude.{◌≡◌, Bool, true, false, cond, ◌⊎◌, ℕ, suc, ◌+◌, ◌≤◌, ◌<◌, ltb, length}
use Rattle.std.proofs.Math.Path.{refl}
use Rattle.std.proofs.Common.{◌∙◌, inl, inr, arith, ltb-true, ltb-false}
use mathlib.Core.List.{List}
use Rattle.std.proofs.lemmas.List.{get_or-replicate}
use Rattle.std.specs.Float.Ieee.{Float, nan}
use Rattle.floats.specs.Constants.{zero64}
use Rattle.lists.specs.Tab.{length-tab, get_or-tab}
use Rattle.lists.specs.Parts.{get_or-sets-out}
use Rattle.variables.specs.declared.types.VariableSet.{VariableSet}
use Rattle.variables.specs.Active.{num_active}
use Rattle.variables.specs.Values.{eight, extracted, clamped_values, applied}
use Rattle.normal.specs.Layout.{jacobian_place}
use Rattle.normal.specs.Jacobian.{column_of}
use Rattle.merit.specs.declared.types.MeritEvaluation.{MeritEvaluation}
use Rattle.runs.specs.declared.types.DampedState.{DampedState}
use Rattle.runs.specs.Run.{Surfaces}
use Rattle.runs.specs.Zeros.{zero_jacobian}
use Rattle.runs.specs.DampedRun.{Optimizer, Current, test_presc, denom, with_differences, candidate_params}
use Rattle.runs.specs.DampedRow.{phase_of, advance, is_finished}
use Rattle.runs.proofs.DampedInvariant.{Invariant, Before, keeps}
use Rattle.runs.specs.Unused.{ZeroFrom, ZeroSurfaces, ZeroJacobian, CleanEvaluation, CleanCurrent, CleanDamped, is_first, is_plus, is_minus, is_candidate}
use Rattle.runs.specs.Unused.{is_ended}

-- eight numbers, of which those past p are zero where the other rule's are
pub eight-zero : (v : VariableSet) (f rest : ℕ → Float) → ((i : ℕ) → num_active v ≤ i → i < 8 → rest i ≡ zero64) → ZeroFrom (num_active v) 8 (eight v f rest)
eight-zero v f rest h i l b = get_or-tab (λ (q : ℕ). cond (ltb q (num_active v)) (f q) (rest q)) 8 i nan b ∙ go (ltb i (num_active v)) refl
  where
    go : (b : Bool) → ltb i (num_active v) ≡ b → cond b (f i) (rest i) ≡ zero64
    go true e = absurd (no (ltb-true i (num_active v) e))
      where
        no : i < num_active v → ⊥
        no l' = omega arith
    go false e = h i l b

pub zero-jacobian : (m filled : ℕ) → ZeroJacobian m filled zero_jacobian
zero-jacobian m filled i q a b h = get_or-replicate 96 (jacobian_place i q) zero64 nan (omega arith)

module _ (o : Optimizer) (n : ℕ)
    (applies : (values : List Float) (x : Surfaces) → ZeroSurfaces n x → ZeroSurfaces n (applied o.variables values x))
    (fits : o.operand_count ≤ 12) where
  abbrev p : ℕ
  p = num_active o.variables

  abbrev m : ℕ
  m = o.operand_count

  -- a column that is written leaves the rest as it was
  zero-differences : (s : Current) (q : ℕ) (j_mat r r' : List Float) → ZeroJacobian m q j_mat → ZeroJacobian m (suc q) (with_differences o s q j_mat r r')
  unfolding with_differences
  zero-differences s q j_mat r r' h i k a b c =
      get_or-sets-out column j_mat (jacobian_place 0 q) (jacobian_place i k) nan (outside (ltb k q) refl c) ∙ h i k a b (before c)
    where
      column : List Float
      column = column_of r r' m (denom o s q)

      behind : length column ≡ m → (m ≤ i) ⊎ (suc q ≤ k) → q ≤ k → jacobian_place 0 q + length column ≤ jacobian_place i k
      behind e (inl l) g = omega arith
      behind e (inr l) g = omega arith

      outside : (t : Bool) → ltb k q ≡ t → (m ≤ i) ⊎ (suc q ≤ k)
          → (jacobian_place i k < jacobian_place 0 q) ⊎ (jacobian_place 0 q + length column ≤ jacobian_place i k)
      outside true e c = inl (omega (arith, ltb-true k q e))
      outside false e c = inr (behind (length-tab _ m) c (ltb-false k q e))

      before : (m ≤ i) ⊎ (suc q ≤ k) → (m ≤ i) ⊎ (q ≤ k)
      before (inl l) = inl l
      before (inr l) = inr (omega arith)

  -- with its last column written, it has p
  all-columns : (q : ℕ) (j_mat : List Float) → q < p → ltb (suc q) p ≡ false → ZeroJacobian m (suc q) j_mat → ZeroJacobian m p j_mat
  all-columns q j_mat l e h i k a b c = h i k a b (go c)
    where
      go : (m ≤ i) ⊎ (p ≤ k) → (m ≤ i) ⊎ (suc q ≤ k)
      go (inl x) = inl x
      go (inr x) = inr (omega (arith, ltb-false (suc q) p e))

  pub zero-extracted : (x : Surfaces) → ZeroFrom p 8 (extracted o.variables x)
  unfolding extracted
  zero-extracted x = eight-zero o.variables _ (λ (q : ℕ). zero64) (λ i l b. refl)

  zero-candidate : (j_mat : List Float) (s : Current) → ZeroFrom p 8 s.params → ZeroFrom p 8 (candidate_params o j_mat s)
  unfolding candidate_params clamped_values
  zero-candidate j_mat s h = eight-zero o.variables _ _ (eight-zero o.variables _ _ h)

  clean : Invariant o
  unfolding test_presc
  clean = record {
    Start = ZeroSurfaces n;
    Answer = CleanEvaluation n p m;
    Holds = CleanCurrent n p m;
    AtColumn = λ q j. (q < p) × ZeroJacobian m q j;
    Full = ZeroJacobian m p;
    Residuals = ZeroFrom m 12;
    Candidate = ZeroFrom p 8;
    State = CleanDamped n p m;
    starts = λ x e h a. (h, zero-extracted x, a);
    raises = λ s h. h;
    counts = λ s h e. h;
    moves = λ c e s h g a. (applies c s.surfaces h.0, g, a);
    first_column = λ e. (ltb-true 0 p e, zero-jacobian m 0);
    no_column = λ e. zero-jacobian m p;
    next_column = λ s q j r r' h a b c e. (ltb-true (suc q) p e, zero-differences s q j r r' a.1);
    last_column = λ s q j r r' h a b c e. all-columns q (with_differences o s q j r r') a.0 e (zero-differences s q j r r' a.1);
    solves = λ j s h f. zero-candidate j s h.1;
    answers = λ e a. a.1;
    state_plus = λ s j q h a. is_plus h a.0 a.1;
    state_minus = λ s j q r h a b. is_minus h a.0 a.1 b;
    state_candidate = λ s j k c h f g l. is_candidate h f g;
    state_ended = λ c s h. is_ended c s h;
  }

  before : {d : DampedState} → CleanDamped n p m d → Before o clean (phase_of d.phase) d
  unfolding clean phase_of
  before (is_first h) = h
  before (is_plus h l j) = (h, (l, j))
  before (is_minus h l j r) = (h, (l, j), r)
  before (is_candidate h j c) = (h, j, c)
  before (is_ended converged s h) = tt

  pub clean-advance : (d : DampedState) (e : MeritEvaluation) → is_finished d ≡ false → CleanDamped n p m d → CleanEvaluation n p m e
      → CleanDamped n p m (advance o d e)
  unfolding clean
  clean-advance d e u h a = keeps o clean d e u (before h) a
