-- The solver: a system is eliminated and solved upward. Assumes nothing.
use mathlib.Core.Path.{◌≡◌, refl, sym, ap, ◌∙◌, subst}
use mathlib.Core.List.{List}
use mathlib.Core.Logic.{inl, inr}
use mathlib.Core.Bool.{true, false}
use Prim.Native.Nat.{ℕ, ◌+◌, ◌≤◌, ◌<◌}
use native.Mathlib.Omega.{arith}
use lib.Dec.{T}
use lib.ListN.{length, get_or}
use lib.Seq.{length-sets}
use lib.Ieee.{Float, nan}
use Rattle.lists.specs.Parts.{get_or-sets-in, get_or-sets-out}
use Rattle.normal.specs.Layout.{scratch_length, step_at, most_variables}
use Rattle.normal.specs.Products.{Matrix}
use Rattle.normal.specs.Elimination.{eliminated, unknowns, solution_of}
use Rattle.normal.specs.Scratch.{Outside, system_in, SystemStands, Solving}
use Rattle.normal.specs.Loops.{Live, solved_upward, Eliminated}
use Rattle.normal.proofs.Upward.{length-unknowns, unknowns-same}

module _ (p : ℕ) (l l₁ : List Float) where
  live : (a : Matrix) → SystemStands p l a → Live p 0 l a
  live a s i j hi hc hj = s i j hi hj

  pub solve-none : Eliminated p l l₁ false → Solving p l l₁ false
  solve-none e = record {
    solved = λ a s. record { answer = e.answer a (live a s); solution = λ t. absurd (subst T (sym (e.answer a (live a s))) t) };
    long = e.long;
    rest = λ x o os. e.rest x o;
  }

  module _ (l₂ : List Float) (most : p ≤ most_variables) (enough : scratch_length ≤ length l) (e : Eliminated p l l₁ true) (up : l₂ ≡ solved_upward p l₁) where
    count : length (unknowns p (system_in l₁) p) ≡ p
    count = length-unknowns p (system_in l₁) p

    stands : (a : Matrix) → SystemStands p l a → (k : ℕ) → k < p → get_or l₂ (step_at + k) nan ≡ get_or (solution_of p a) k nan
    unfolding solution_of
    stands a s k b =
        ap (λ (y : List Float). get_or y (step_at + k) nan) up
        ∙ get_or-sets-in (unknowns p (system_in l₁) p) l₁ step_at k nan (rw count b) (rw (count, e.long) (omega arith))
        ∙ ap (λ (xs : List Float). get_or xs k nan) (unknowns-same p (system_in l₁) (eliminated p a p) (λ i j hi hd hj. e.done a (live a s) refl i j hi
        (omega arith) hj) p (omega arith))

    pub solve-some : Solving p l l₂ true
    solve-some = record {
      solved = λ a s. record { answer = e.answer a (live a s); solution = λ t. stands a s };
      long = ap length up ∙ length-sets l₁ step_at (unknowns p (system_in l₁) p) ∙ e.long;
      rest = λ x o os. ap (λ (y : List Float). get_or y x nan) up ∙ get_or-sets-out (unknowns p (system_in l₁) p) l₁ step_at x nan (narrow x os) ∙ e.rest x o;
    }
      where
        narrow : (x : ℕ) → Outside step_at most_variables x → Outside step_at (length (unknowns p (system_in l₁) p)) x
        narrow x (inl b) = inl b
        narrow x (inr b) = inr (rw count (omega arith))
