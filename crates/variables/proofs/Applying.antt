-- A loop over the variables of a set that stores the value of each enabled one in its surface and in its follower. Assumes nothing.
use Prim.Native.Nat.{ℕ, ◌+◌, ◌≤◌, ◌<◌}
use mathlib.Core.Path.{◌≡◌, sym, ◌∙◌}
use mathlib.Core.Bool.{true, false}
use mathlib.Core.List.{List}
use native.Mathlib.Numerals.{add-one}
use native.Mathlib.Omega.{arith}
use lib.ListN.{get_or}
use lib.Ieee.{Float, nan}
use Rattle.optics.specs.declared.types.OpticalSurface.{OpticalSurface}
use Rattle.variables.specs.declared.types.VariableDef.{VariableDef}
use Rattle.variables.specs.declared.types.VariableSet.{VariableSet}
use Rattle.variables.specs.Kinds.{apply_clamp}
use Rattle.variables.specs.Active.{variable_at}
use Rattle.variables.proofs.ActiveLaws.{enabled_count, count-le, count-more, count_past, active-here}
use Rattle.variables.specs.Values.{stored_in, applied_to}

-- i variables are passed, of which q were enabled, and the values of those are stored
pub record Applying (v : VariableSet) (values : List Float) (start s : List OpticalSurface) (q i : ℕ) : Type 0 where
  pub passed : i ≤ v.variable_count
  pub counted : q ≡ enabled_count v i
  pub stored : s ≡ applied_to v values start q

-- one value, as the variable that is passed has it
abbrev pub one : VariableDef → List Float → ℕ → List OpticalSurface → List OpticalSurface
one d values q s = stored_in s d (apply_clamp (get_or values q nan) d.min_value d.max_value)

module _ {v : VariableSet} {values : List Float} {start s : List OpticalSurface} {q i : ℕ} (a : Applying v values start s q i) where
  pub counted-le : q ≤ i
  counted-le = omega (arith, a.counted, count-le v i)

  pub apply-more : (s' : List OpticalSurface) (q' : ℕ) → i < v.variable_count → (variable_at v i).enabled ≡ true → s' ≡ one (variable_at v i) values q s → q'
      ≡ q + 1 → Applying v values start s' q' (i + 1)
  unfolding applied_to
  apply-more s' q' h e es eq = record {
    passed = omega arith;
    counted = omega (arith, a.counted, count-more v i e);
    stored = rw (eq, add-one q) (es ∙ (λ k. one (sym (active-here v i q h e a.counted) k) values q (a.stored k)));
  }

  pub apply-past : (s' : List OpticalSurface) (q' : ℕ) → i < v.variable_count → (variable_at v i).enabled ≡ false → s' ≡ s → q' ≡ q
      → Applying v values start s' q' (i + 1)
  apply-past s' q' h e es eq = record {
    passed = omega arith;
    counted = omega (arith, a.counted, count_past v i e);
    stored = rw (es, eq) a.stored;
  }
