-- One attempt: the damped system is laid out and solved. Assumes nothing.
use mathlib.Core.Path.{◌≡◌, sym, ap, ◌∙◌, subst}
use mathlib.Core.List.{List}
use mathlib.Core.Bool.{Bool, true, false, ◌&&◌}
use Prim.Native.Nat.{ℕ, ◌+◌, ◌≤◌, ◌<◌}
use native.Mathlib.Omega.{arith}
use lib.Dec.{T}
use lib.ListN.{length, get_or}
use lib.Ieee.{Float, nan}
use Rattle.lists.specs.All.{all_below, all_same}
use Rattle.floats.specs.Basic.{finite_of}
use Rattle.normal.specs.Layout.{scratch_length, system_at, system_length, step_at, most_variables, system_place}
use Rattle.normal.specs.Products.{Matrix, Vector}
use Rattle.normal.specs.Damping.{damped_system}
use Rattle.normal.specs.Elimination.{solvable}
use Rattle.normal.specs.Step.{step_of, step_found}
use Rattle.normal.specs.Scratch.{Outside, Stands, Attempt, SystemStands, Solving}
use Rattle.normal.specs.Loops.{with_system}
use Rattle.normal.proofs.System.{system-stands, system-long, system-out}

module _ (p : ℕ) (damping : Float) (l l₁ l₂ : List Float) (most : p ≤ most_variables) (enough : scratch_length ≤ length l)
    (laid : l₁ ≡ with_system p damping p l) where
  rest₁ : (x : ℕ) → Outside system_at system_length x → get_or l₁ x nan ≡ get_or l x nan
  rest₁ x o = ap (λ (y : List Float). get_or y x nan) laid ∙ system-out p damping l most enough p (omega arith) x o

  stands₁ : (h : Matrix) (g : Vector) → Stands p l h g → SystemStands p l₁ (damped_system p damping h g)
  stands₁ h g s i j hi hj = ap (λ (y : List Float). get_or y (system_place i j) nan) laid ∙ system-stands p damping l most enough h g s i j hi hj

  module _ (r : Bool) (e : Solving p l₁ l₂ r) where
    long₂ : length l₂ ≡ length l
    long₂ = e.long ∙ ap length laid ∙ system-long p damping l most enough p

    rest₂ : (x : ℕ) → Outside system_at system_length x → Outside step_at most_variables x → get_or l₂ x nan ≡ get_or l x nan
    rest₂ x o os = e.rest x o os ∙ rest₁ x o

    told : (h : Matrix) (g : Vector) → Stands p l h g → r ≡ solvable p (damped_system p damping h g)
    told h g s = (e.solved (damped_system p damping h g) (stands₁ h g s)).answer

  pub attempt-none : Solving p l₁ l₂ false → Attempt p damping l l₂ false
  unfolding step_found
  attempt-none e = record {
    attempted = λ h g s. record { answer = sym (none h g s); step = λ t. absurd (subst T (none h g s) t) };
    long = long₂ false e;
    rest = rest₂ false e;
  }
    where
      none : (h : Matrix) (g : Vector) → Stands p l h g → step_found p damping h g ≡ false
      none h g s =
          ap (λ (b : Bool). b && all_below (λ (k : ℕ). finite_of (get_or (step_of p damping h g) k nan)) p)
          (sym (told false e h g s))

  module _ (r : Bool) (e : Solving p l₁ l₂ true) (test : r ≡ all_below (λ (k : ℕ). finite_of (get_or l₂ (step_at + k) nan)) p) where
    has : (h : Matrix) (g : Vector) → Stands p l h g → solvable p (damped_system p damping h g) ≡ true
    has h g s = sym (told true e h g s)

    step-stands : (h : Matrix) (g : Vector) → Stands p l h g → (k : ℕ) → k < p → get_or l₂ (step_at + k) nan ≡ get_or (step_of p damping h g) k nan
    unfolding step_of
    step-stands h g s = (e.solved (damped_system p damping h g) (stands₁ h g s)).solution (rw (has h g s) tt)

    found : (h : Matrix) (g : Vector) → Stands p l h g → r ≡ step_found p damping h g
    unfolding step_found
    found h g s =
        test
        ∙ all_same (λ (k : ℕ). finite_of (get_or l₂ (step_at + k) nan)) (λ (k : ℕ). finite_of (get_or (step_of p damping h g) k nan)) p
        (λ k b. ap finite_of (step-stands h g s k b))
        ∙ ap (λ (b : Bool). b && all_below (λ (k : ℕ). finite_of (get_or (step_of p damping h g) k nan)) p) (sym (has h g s))

    pub attempt-some : Attempt p damping l l₂ r
    attempt-some = record {
      attempted = λ h g s. record { answer = found h g s; step = λ t. step-stands h g s };
      long = long₂ true e;
      rest = rest₂ true e;
    }
