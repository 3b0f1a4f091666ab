-- Scratch k is the front of l and became w: what holds of the two holds of l and of w before the rest of l. Assumes nothing.
use mathlib.Core.Path.{◌≡◌, refl, ap, ◌∙◌}
use mathlib.Core.List.{List, ◌++◌}
use mathlib.Core.Bool.{Bool, true, false}
use Prim.Native.Nat.{ℕ, ◌+◌, ◌-◌, ◌≤◌, ◌<◌}
use native.Mathlib.Omega.{arith}
use lib.Dec.{ltb}
use lib.ListN.{length, get_or, drop, take}
use lib.Ieee.{Float, nan}
use borrow.Author.Tests.{ltb-true, ltb-false}
use Rattle.std.proofs.lemmas.List.{length-append, length-drop, length-take-le, get_or-take, get_or-drop, get_or_append_left, get_or-append_right}
use Rattle.normal.specs.Layout.{scratch_length, product_at, system_place, gradient_at, step_at, most_variables, place}
use Rattle.normal.specs.Products.{Matrix, Vector}
use Rattle.normal.specs.Scratch.{Stands, Equations, Solving, Attempt}
use Rattle.normal.proofs.Triangle.{place-below}

module _ (l k w : List Float) (enough : scratch_length ≤ length l) (front : k ≡ take scratch_length l) (long : length w ≡ length k) where
  abbrev whole : List Float
  whole = w ++ drop scratch_length l

  count : length k ≡ scratch_length
  count = ap length front ∙ length-take-le scratch_length l enough

  all : length whole ≡ length l
  all = rw (length-append w (drop scratch_length l), length-drop scratch_length l, long, count) (omega arith)

  was : (x : ℕ) → x < scratch_length → get_or k x nan ≡ get_or l x nan
  was x b = ap (λ (y : List Float). get_or y x nan) front ∙ get_or-take scratch_length l x nan b

  is : (x : ℕ) → x < scratch_length → get_or whole x nan ≡ get_or w x nan
  is x b = get_or_append_left w (drop scratch_length l) nan x (omega (arith, long, count))

  behind : (x : ℕ) → scratch_length ≤ x → get_or whole x nan ≡ get_or l x nan
  behind x b =
      get_or-append_right w (drop scratch_length l) scratch_length x nan (long ∙ count) b
      ∙ get_or-drop scratch_length l (x - scratch_length) nan
      ∙ ap (λ (n : ℕ). get_or l n nan) (omega arith)

  rest : (x : ℕ) → get_or w x nan ≡ get_or k x nan → get_or whole x nan ≡ get_or l x nan
  rest x e = go (ltb x scratch_length) refl
    where
      go : (b : Bool) → ltb x scratch_length ≡ b → get_or whole x nan ≡ get_or l x nan
      go true t = is x (ltb-true x scratch_length t) ∙ e ∙ was x (ltb-true x scratch_length t)
      go false t = behind x (omega (arith, ltb-false x scratch_length t))

  module _ (p : ℕ) (most : p ≤ most_variables) where
    low : (i j : ℕ) → i < p → j < p → product_at + place i j < scratch_length
    low i j hi hj = omega (arith, place-below i j (omega arith) (omega arith))

    stand-whole : (h : Matrix) (g : Vector) → Stands p w h g → Stands p whole h g
    stand-whole h g s = record {
      product = λ i j hi hj. is (product_at + place i j) (low i j hi hj) ∙ s.product i j hi hj;
      gradient = λ i hi. is (gradient_at + i) (omega arith) ∙ s.gradient i hi;
    }

    stood : (h : Matrix) (g : Vector) → Stands p l h g → Stands p k h g
    stood h g s = record {
      product = λ i j hi hj. was (product_at + place i j) (low i j hi hj) ∙ s.product i j hi hj;
      gradient = λ i hi. was (gradient_at + i) (omega arith) ∙ s.gradient i hi;
    }

    pub equations-whole : (m : ℕ) (jacobian : Matrix) (residuals : Vector) (r : Float) → Equations m p jacobian residuals k w r
        → Equations m p jacobian residuals l whole r
    equations-whole m jacobian residuals r e = record {
      stand = stand-whole _ _ e.stand;
      norm = e.norm;
      long = all;
      rest = λ x o os. rest x (e.rest x o os);
    }

    pub solving-whole : (r : Bool) → Solving p k w r → Solving p l whole r
    solving-whole r e = record {
      solved =
          λ a s. let t = e.solved a (λ i j hi hj. was (system_place i j) (omega arith) ∙ s i j hi hj) in record {
            answer = t.answer;
            solution = λ yes n b. is (step_at + n) (omega arith) ∙ t.solution yes n b;
          };
      long = all;
      rest = λ x o os. rest x (e.rest x o os);
    }

    pub attempt-whole : (damping : Float) (r : Bool) → Attempt p damping k w r → Attempt p damping l whole r
    attempt-whole damping r e = record {
      attempted =
          λ h g s. let t = e.attempted h g (stood h g s) in record {
            answer = t.answer;
            step = λ yes n b. is (step_at + n) (omega arith) ∙ t.step yes n b;
          };
      long = all;
      rest = λ x o os. rest x (e.rest x o os);
    }
