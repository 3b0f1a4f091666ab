-- What callers may use beside the contracts: scratch between the calls and after them. Assumes nothing.
use mathlib.Core.Path.{◌≡◌, ◌∙◌}
use mathlib.Core.List.{List}
use mathlib.Core.Bool.{Bool}
use mathlib.Core.Logic.{inl, inr}
use Prim.Native.Nat.{ℕ, ◌+◌, ◌≤◌}
use native.Mathlib.Omega.{arith}
use lib.ListN.{drop}
use lib.Ieee.{Float, nan}
use Rattle.normal.specs.Layout.{scratch_length, product_at, gradient_at, most_variables, place}
use Rattle.normal.specs.Products.{Matrix, Vector}
use Rattle.normal.specs.Scratch.{Stands, Equations, Attempt}
use Rattle.normal.proofs.Parts.{same-behind}
use Rattle.normal.proofs.Triangle.{place-below}

-- after an attempt the normal equations still stand, so that another attempt can be made
pub attempt-stands : (p : ℕ) (damping : Float) (h : Matrix) (g : Vector) (l l' : List Float) (r : Bool) → p ≤ most_variables → Attempt p damping l l' r
    → Stands p l h g → Stands p l' h g
attempt-stands p damping h g l l' r most a s = record {
  product =
      λ i j hi hj. a.rest (product_at + place i j) (inl (omega (arith, place-below i j (omega arith) (omega arith))))
      (inl (omega (arith, place-below i j (omega arith) (omega arith)))) ∙ s.product i j hi hj;
  gradient = λ i hi. a.rest (gradient_at + i) (inr (omega arith)) (inl (omega arith)) ∙ s.gradient i hi;
}

-- what lies behind the part of scratch that a turn uses is as it was
pub equations-behind : (m p : ℕ) (jacobian : Matrix) (residuals : Vector) (l l' : List Float) (r : Float) → Equations m p jacobian residuals l l' r
    → drop scratch_length l' ≡ drop scratch_length l
equations-behind m p jacobian residuals l l' r e = same-behind l l' scratch_length nan e.long (λ x h. e.rest x (inr (omega arith)) (inr (omega arith)))

pub attempt-behind : (p : ℕ) (damping : Float) (l l' : List Float) (r : Bool) → Attempt p damping l l' r → drop scratch_length l' ≡ drop scratch_length l
attempt-behind p damping l l' r a = same-behind l l' scratch_length nan a.long (λ x h. a.rest x (inr (omega arith)) (inr (omega arith)))
