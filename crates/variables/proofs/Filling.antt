-- A loop over the variables of a set that stores one number for each enabled one. Assumes nothing.
use mathlib.Core.Path.{◌≡◌, ap, ◌∙◌}
use mathlib.Core.Bool.{true, false}
use mathlib.Core.List.{List, ◌++◌}
use Prim.Native.Nat.{ℕ, ◌+◌, ◌≤◌, ◌<◌}
use native.Mathlib.Omega.{arith}
use lib.ListN.{length, get_or, set, drop}
use lib.Ieee.{Float, nan}
use Rattle.lists.specs.Filled.{filled}
use Rattle.lists.specs.Tab.{tab, tab-step}
use Rattle.variables.specs.declared.types.VariableDef.{VariableDef}
use Rattle.variables.specs.declared.types.VariableSet.{VariableSet}
use Rattle.variables.specs.Active.{variable_at, active_at}
use Rattle.variables.proofs.ActiveLaws.{enabled_count, count-le, count-more, count_past, active-here}
use Rattle.variables.specs.Values.{eight}

-- i variables are passed, of which q were enabled, and the numbers of those are stored: g of the variable and its number among the enabled ones
pub record Filling (v : VariableSet) (g : VariableDef → ℕ → Float) (start x : List Float) (q i : ℕ) : Type 0 where
  pub passed : i ≤ v.variable_count
  pub counted : q ≡ enabled_count v i
  pub stored : x ≡ tab (λ (k : ℕ). g (active_at v k) k) q ++ drop q start

module _ {v : VariableSet} {g : VariableDef → ℕ → Float} {start x : List Float} {q i : ℕ} (f : Filling v g start x q i) where
  pub counted-le : q ≤ i
  counted-le = omega (arith, f.counted, count-le v i)

  pub fill_more : (x' : List Float) (q' : ℕ) (y : Float) → length start ≡ 8 → v.variable_count ≤ 8 → i < v.variable_count → (variable_at v i).enabled ≡ true
      → y ≡ g (variable_at v i) q → x' ≡ set x q y → q' ≡ q + 1 → Filling v g start x' q' (i + 1)
  fill_more x' q' y l m h e ey ex eq = record {
    passed = omega arith;
    counted = omega (arith, f.counted, count-more v i e);
    stored = rw (ex, eq) (tab-step (λ (k : ℕ). g (active_at v k) k) start x q y nan f.stored (rw (active-here v i q h e f.counted) ey) (omega (
      arith,
      counted-le,
    )));
  }

  pub fill-past : (x' : List Float) (q' : ℕ) → i < v.variable_count → (variable_at v i).enabled ≡ false → x' ≡ x → q' ≡ q → Filling v g start x' q' (i + 1)
  fill-past x' q' h e ex eq = record {
    passed = omega arith;
    counted = omega (arith, f.counted, count_past v i e);
    stored = rw (ex, eq) f.stored;
  }

  pub fill_end : (rest : ℕ → Float) → length start ≡ 8 → v.variable_count ≤ 8 → v.variable_count ≤ i
      → ((k : ℕ) → k < length start → get_or start k nan ≡ rest k) → x ≡ eight v (λ (k : ℕ). g (active_at v k) k) rest
  fill_end rest l m h kept =
      let e : i ≡ v.variable_count = omega (arith, f.passed) in
      let p : q ≡ enabled_count v v.variable_count = f.counted ∙ ap (enabled_count v) e in
      f.stored ∙ rw (p, ← l) (filled (λ (k : ℕ). g (active_at v k) k) rest (enabled_count v v.variable_count) start nan (omega (arith, counted-le)) kept)
