-- The damped system: its entries by the tests that the code makes, and the rows that are laid out. Assumes nothing.
use mathlib.Core.Path.{◌≡◌, refl, sym, ap, ◌∙◌}
use mathlib.Core.Bool.{Bool, true, false, cond}
use Prim.Native.Nat.{ℕ, zero, suc, ◌+◌, ◌<◌, ◌≤◌}
use native.Mathlib.Nat.{eq-or-lt_of_le, le_of_suc-le-suc, not-suc-le-zero}
use native.Mathlib.Omega.{arith}
use lib.Dec.{eqb}
use mathlib.Core.List.{List}
use mathlib.Core.Logic.{inl, inr}
use lib.ListN.{length, get_or, set}
use lib.Seq.{sets, length-sets}
use lib.Ieee.{Float, nan, neg}
use borrow.Author.Tests.{eq-eqb, ne_eqb, eqb-false}
use Rattle.lists.specs.Tab.{tab}
use Rattle.normal.specs.Layout.{scratch_length, product_at, system_at, system_length, gradient_at, place, system_place}
use Rattle.normal.specs.Products.{Matrix, Vector}
use Rattle.normal.specs.Damping.{damped_diagonal, damped, damped_system}
use Rattle.normal.specs.Scratch.{Outside, Stands, SystemStands, product_in, gradient_in}
use Rattle.normal.specs.Loops.{with_system_row, with_system}
use Rattle.normal.proofs.Triangle.{place-below}
use Rattle.normal.proofs.Parts.{part_step, part_in, part_out}

module _ (p : ℕ) (damping : Float) (h : Matrix) (g : Vector) (i j : ℕ) where
  pub right-entry : j ≡ p → neg (g i) ≡ damped_system p damping h g i j
  unfolding damped_system
  right-entry e = ap (λ (b : Bool). cond b (neg (g i)) (damped damping h i j)) (sym (eq-eqb j p e))

  inside : (j ≡ p → ⊥) → damped damping h i j ≡ damped_system p damping h g i j
  unfolding damped_system
  inside n = ap (λ (b : Bool). cond b (neg (g i)) (damped damping h i j)) (sym (ne_eqb j p n))

  pub diagonal-entry : (j ≡ p → ⊥) → i ≡ j → damped_diagonal damping (h i j) ≡ damped_system p damping h g i j
  unfolding damped
  diagonal-entry n e = ap (λ (b : Bool). cond b (damped_diagonal damping (h i j)) (h i j)) (sym (eq-eqb i j e)) ∙ inside n

  pub other-entry : (j ≡ p → ⊥) → (i ≡ j → ⊥) → h i j ≡ damped_system p damping h g i j
  unfolding damped
  other-entry n e = ap (λ (b : Bool). cond b (damped_diagonal damping (h i j)) (h i j)) (sym (ne_eqb i j e)) ∙ inside n

  -- the entry goes by the matrix within its columns, and by the gradient
  pub system-same : (h' : Matrix) (g' : Vector) → j ≤ p → (j < p → h i j ≡ h' i j) → g i ≡ g' i → damped_system p damping h g i j
      ≡ damped_system p damping h' g' i j
  unfolding damped_system damped
  system-same h' g' b eh eg = go (eqb j p) refl
    where
      behind : (j ≡ p → ⊥) → j < p
      behind n = omega arith

      go : (t : Bool) → eqb j p ≡ t → cond t (neg (g i)) (damped damping h i j) ≡ cond t (neg (g' i)) (damped damping h' i j)
      go true e = ap neg eg
      go false e = ap (λ (x : Float). cond (eqb i j) (damped_diagonal damping x) x) (eh (behind (eqb-false j p e)))

-- a turn of the loop that lays out row i
pub row-turn : (l q : List Float) (p i j first : ℕ) (damping v : Float) → i < p → j ≤ p → p ≤ 8 → first ≡ system_place i 0
    → q ≡ sets l (system_place i 0) (tab (damped_system p damping (product_in l) (gradient_in l) i) j)
    → v ≡ damped_system p damping (product_in q) (gradient_in q) i j
    → set q (first + j) v ≡ sets l (system_place i 0) (tab (damped_system p damping (product_in l) (gradient_in l) i) (j + 1))
row-turn l q p i j first damping v hi hj hp ef e ev =
    let f : Vector = damped_system p damping (product_in l) (gradient_in l) i in
    let out : (x : ℕ) → Outside (system_place i 0) j x → get_or q x nan ≡ get_or l x nan =
    λ x o. ap (λ (y : List Float). get_or y x nan) e ∙ part_out f l (system_place i 0) j x nan o in
    part_step f l q (system_place i 0) j (first + j) v e (ap (λ (x : ℕ). x + j) ef)
    (ev ∙ system-same p damping (product_in q) (gradient_in q) i j (product_in l) (gradient_in l) hj
    (λ b. out (product_at + place i j) (inl (omega (arith, place-below i j (omega arith) (omega arith))))) (out (gradient_at + i) (inr (omega arith))))

-- ---- the rows that are laid out
module _ (p : ℕ) (damping : Float) (l : List Float) (most : p ≤ 8) (long : scratch_length ≤ length l) where
  pub system-long : (n : ℕ) → length (with_system p damping n l) ≡ length l
  unfolding with_system with_system_row
  system-long zero = refl
  system-long (suc n) =
      length-sets (with_system p damping n l) (system_place n 0)
      (tab (damped_system p damping (product_in (with_system p damping n l)) (gradient_in (with_system p damping n l)) n) (p + 1)) ∙ system-long n

  pub system-out : (n : ℕ) → n ≤ p → (x : ℕ) → Outside system_at system_length x → get_or (with_system p damping n l) x nan ≡ get_or l x nan
  unfolding with_system with_system_row
  system-out zero h x o = refl
  system-out (suc n) h x o =
      let q = with_system p damping n l in
      part_out (damped_system p damping (product_in q) (gradient_in q) n) q (system_place n 0) (p + 1) x nan (narrow o) ∙ system-out n (omega arith) x o
    where
      narrow : Outside system_at system_length x → Outside (system_place n 0) (p + 1) x
      narrow (inl b) = inl (omega arith)
      narrow (inr b) = inr (omega arith)

  module _ (h : Matrix) (g : Vector) (stands : Stands p l h g) where
    system-holds : (n : ℕ) → n ≤ p → (i j : ℕ) → i < n → j ≤ p → get_or (with_system p damping n l) (system_place i j) nan ≡ damped_system p damping h g i j
    unfolding with_system with_system_row
    system-holds zero hn i j hi hj = absurd (not-suc-le-zero hi)
    system-holds (suc n) hn i j hi hj = elim (eq-or-lt_of_le (le_of_suc-le-suc hi)) [
      | inl e ↦ ap (λ (z : ℕ). get_or (sets q (system_place n 0) (tab f (p + 1))) (system_place z j) nan) e ∙ last
          ∙ ap (λ (z : ℕ). damped_system p damping h g z j) (sym e)
      | inr b ↦ part_out f q (system_place n 0) (p + 1) (system_place i j) nan (inl (omega arith)) ∙ system-holds n (omega arith) i j b hj
    ]
      where
        q : List Float
        q = with_system p damping n l

        f : Vector
        f = damped_system p damping (product_in q) (gradient_in q) n

        at : system_place n j ≡ system_place n 0 + j
        at = omega arith

        last : get_or (sets q (system_place n 0) (tab f (p + 1))) (system_place n j) nan ≡ damped_system p damping h g n j
        last =
            ap (λ (z : ℕ). get_or (sets q (system_place n 0) (tab f (p + 1))) z nan) at
            ∙ part_in f q (system_place n 0) (p + 1) j nan (omega arith) (rw (system-long n) (omega arith))
            ∙ system-same p damping (product_in q) (gradient_in q) n j h g hj
            (λ b. system-out n (omega arith) (product_at + place n j) (inl (omega (arith, place-below n j (omega arith) (omega arith))))
            ∙ stands.product n j hn b) (system-out n (omega arith) (gradient_at + n) (inr (omega arith)) ∙ stands.gradient n hn)

    pub system-stands : SystemStands p (with_system p damping p l) (damped_system p damping h g)
    system-stands i j hi hj = system-holds p (omega arith) i j hi hj
