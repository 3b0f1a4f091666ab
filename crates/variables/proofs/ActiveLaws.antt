-- Where the enabled variables of a set stand among them. Assumes nothing.
use Rattle.std.specs.Prelude.{◌≡◌, refl, ◌⊎◌, Bool, false, length, get_or}
use Rattle.std.proofs.Common.{sym, ◌∙◌, eq-or-lt_of_le, le_of_suc-le-suc, add-one}
use Rattle.std.proofs.Math.Path.{ap, subst}
use Rattle.std.proofs.Math.Logic.{inl, inr}
use Rattle.std.proofs.Math.Bool.{true, cond}
use mathlib.Core.List.{[], ◌∷◌, ◌++◌, append-nil}
use Prim.Native.Nat.{ℕ, zero, suc, ◌+◌, ◌≤◌, ◌<◌}
use native.Mathlib.Omega.{arith}
use Rattle.std.proofs.Math.ListN.{length-append, get_or-append}
use Rattle.std.proofs.Math.Seq.{get_or_at}
use Rattle.variables.specs.declared.types.VariableDef.{VariableDef}
use Rattle.variables.specs.declared.types.VariableSet.{VariableSet}
use Rattle.variables.specs.Active.{no_variable, variable_at, if_enabled, enabled_of, active_at}

module _ (v : VariableSet) where
  -- how many of the first n are enabled
  abbrev pub enabled_count : ℕ → ℕ
  enabled_count n = length (enabled_of v n)

  enabled-more : (i : ℕ) → (variable_at v i).enabled ≡ true → enabled_of v (suc i) ≡ enabled_of v i ++ (variable_at v i ∷ [])
  unfolding enabled_of
  enabled-more i e = ap (λ (b : Bool). enabled_of v i ++ cond b (variable_at v i ∷ []) []) e

  enabled-past : (i : ℕ) → (variable_at v i).enabled ≡ false → enabled_of v (suc i) ≡ enabled_of v i
  unfolding enabled_of
  enabled-past i e = ap (λ (b : Bool). enabled_of v i ++ cond b (variable_at v i ∷ []) []) e ∙ append-nil (enabled_of v i)

  -- the same, of the count, as a loop takes it on
  pub count-more : (i : ℕ) → (variable_at v i).enabled ≡ true → enabled_count (i + 1) ≡ enabled_count i + 1
  count-more i e = rw (add-one i, enabled-more i e, length-append)

  pub count_past : (i : ℕ) → (variable_at v i).enabled ≡ false → enabled_count (i + 1) ≡ enabled_count i
  count_past i e = rw (add-one, enabled-past i e)

  -- a variable is enabled or not
  split : (i : ℕ) {P : Type 0} → ((variable_at v i).enabled ≡ true → P) → ((variable_at v i).enabled ≡ false → P) → P
  split i {P} f g = go (variable_at v i).enabled refl
    where
      go : (b : Bool) → (variable_at v i).enabled ≡ b → P
      go true e = f e
      go false e = g e

  -- no more than n
  pub count-le : (n : ℕ) → enabled_count n ≤ n
  unfolding enabled_of
  count-le zero = omega arith
  count-le (suc n) =
      let h = count-le n in
      subst (λ (k : ℕ). enabled_count k ≤ k) (add-one n) (split n (λ e. omega (arith, count-more n e)) (λ e. omega (arith, count_past n e)))

  -- an enabled variable below n stands among the enabled ones, after those before it
  pub place : (n i : ℕ) → i < n → (variable_at v i).enabled ≡ true
      → (enabled_count i < enabled_count n) × (get_or (enabled_of v n) (enabled_count i) no_variable ≡ variable_at v i)
  unfolding enabled_of
  place zero i h e = absurd (no i h)
    where
      no : (i : ℕ) → i < 0 → ⊥
      no i h = omega arith
  place (suc n) i h e = elim (eq-or-lt_of_le (le_of_suc-le-suc h)) [
    | inl s ↦ subst (λ (k : ℕ). (enabled_count k < enabled_count (suc n)) × (get_or (enabled_of v (suc n)) (enabled_count k) no_variable ≡ variable_at v k))
        (sym s)
        (last (subst (λ (k : ℕ). (variable_at v k).enabled ≡ true) s e))
    | inr l ↦ let r = place n i l e in (grown r.0, get_or-append (enabled_of v n) (if_enabled (variable_at v n)) no_variable (enabled_count i) r.0 ∙ r.1)
  ]
    where
      last : (variable_at v n).enabled ≡ true
          → (enabled_count n < enabled_count (suc n)) × (get_or (enabled_of v (suc n)) (enabled_count n) no_variable ≡ variable_at v n)
      last t = rw (enabled-more n t) (rw length-append (omega arith), get_or_at (enabled_of v n) (variable_at v n) [] no_variable (enabled_count n) refl)

      grown : enabled_count i < enabled_count n → enabled_count i < enabled_count (suc n)
      grown l = rw length-append (omega arith)

  -- what holds of each enabled variable below n holds of each that stands among the enabled ones
  pub each : (P : VariableDef → Type 0) (n q : ℕ) → ((i : ℕ) → i < n → (variable_at v i).enabled ≡ true → P (variable_at v i)) → q < enabled_count n
      → P (get_or (enabled_of v n) q no_variable)
  unfolding enabled_of
  each P zero q h l = absurd (no q l)
    where
      no : (q : ℕ) → q < 0 → ⊥
      no q l = omega arith
  each P (suc n) q h l =
      let earlier : q < enabled_count n → P (get_or (enabled_of v n) q no_variable) = λ k. each P n q (λ i b. h i (below i b)) k in
      split n (on earlier) (past earlier)
    where
      below : (i : ℕ) → i < n → i < suc n
      below i l = omega arith

      past : (q < enabled_count n → P (get_or (enabled_of v n) q no_variable)) → (variable_at v n).enabled ≡ false
          → P (get_or (enabled_of v (suc n)) q no_variable)
      past earlier e = rw (enabled-past n e) (earlier (rw (enabled-past n e) at l))

      ends : (q < enabled_count n → P (get_or (enabled_of v n) q no_variable)) → (variable_at v n).enabled ≡ true
          → (q ≡ enabled_count n) ⊎ (q < enabled_count n)
          → P (get_or (enabled_of v n ++ (variable_at v n ∷ [])) q no_variable)
      ends earlier e (inl s) = rw (get_or_at (enabled_of v n) (variable_at v n) [] no_variable q (sym s)) (h n (omega arith) e)
      ends earlier e (inr k) = rw (get_or-append (enabled_of v n) (variable_at v n ∷ []) no_variable q k) (earlier k)

      on : (q < enabled_count n → P (get_or (enabled_of v n) q no_variable)) → (variable_at v n).enabled ≡ true
          → P (get_or (enabled_of v (suc n)) q no_variable)
      on earlier e = rw (enabled-more n e) (ends earlier e (eq-or-lt_of_le (omega (arith, rw (enabled-more n e, length-append) at l))))

  -- a loop over the variables that has counted q enabled ones comes to an enabled one: it is the one that the q-th value belongs to
  pub active-here : (i q : ℕ) → i < v.variable_count → (variable_at v i).enabled ≡ true → q ≡ enabled_count i → active_at v q ≡ variable_at v i
  active-here i q h e s = ap (active_at v) s ∙ (place v.variable_count i h e).1
