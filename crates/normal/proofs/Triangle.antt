-- Where products stand in the triangle: within it, and apart from each other but for the two orders of a pair. Assumes nothing.
use mathlib.Core.Path.{◌≡◌, refl, sym, ◌∙◌}
use mathlib.Core.Bool.{Bool, true, false}
use lib.Dec.{ltb}
use borrow.Author.Tests.{ltb-true, ltb-false}
use mathlib.Core.Logic.{inl, inr}
use Prim.Native.Nat.{ℕ, zero, suc, max, min, ◌+◌, ◌*◌, ◌/◌, ◌≤◌, ◌<◌}
use native.Mathlib.Nat.{eq-or-lt_of_le, le_of_suc-le-suc, le_refl, not-suc-le-zero}
use native.Mathlib.Omega.{arith}
use Rattle.normal.specs.Layout.{product_length, most_variables, row_start, place}
use Rattle.normal.specs.Products.{Matrix, normal_product}
use Rattle.normal.proofs.Sums.{symmetric}

-- a row ends where the next begins, or before
pub start-grows : (i a : ℕ) → i < a → row_start i + suc i ≤ row_start a
unfolding row_start
start-grows i zero h = absurd (not-suc-le-zero h)
start-grows i (suc a) h = elim (eq-or-lt_of_le (le_of_suc-le-suc h)) [
  | inl e ↦ rw e (le_refl (row_start a + suc a))
  | inr b ↦ omega (arith, start-grows i a b)
]

-- the code's form of it
twice : (i : ℕ) → row_start i + row_start i ≡ i * (i + 1)
unfolding row_start
twice zero = refl
twice (suc i) = omega (arith, twice i)

pub start_is : (i : ℕ) → i * (i + 1) / 2 ≡ row_start i
start_is i = omega (arith, twice i)

pub start_small : (i : ℕ) → i < most_variables → i * (i + 1) ≤ product_length + product_length
unfolding row_start
start_small i h = omega (arith, twice i, start-grows i most_variables h)

pub place-below : (i j : ℕ) → i < most_variables → j < most_variables → place i j < product_length
unfolding place row_start
place-below i j hi hj = omega (arith, start-grows (max i j) most_variables (omega arith))

pub place-swap : (i j : ℕ) → place i j ≡ place j i
unfolding place
place-swap i j =
    let larger : max i j ≡ max j i = omega arith in
    let smaller : min i j ≡ min j i = omega arith in
    λ t. row_start (larger t) + smaller t

-- by the test that the code makes
pub place-upper : (i j : ℕ) → i < j → row_start j + i ≡ place i j
unfolding place
place-upper i j h =
    let larger : j ≡ max i j = omega arith in
    let smaller : i ≡ min i j = omega arith in
    λ t. row_start (larger t) + smaller t

pub place-lower : (i j : ℕ) → j ≤ i → row_start i + j ≡ place i j
unfolding place
place-lower i j h =
    let larger : i ≡ max i j = omega arith in
    let smaller : j ≡ min i j = omega arith in
    λ t. row_start (larger t) + smaller t

-- ---- equal places are equal pairs, in one order or the other
not-before : (a b i j : ℕ) → b ≤ a → row_start a + b ≡ row_start i + j → a < i → ⊥
not-before a b i j hb e h = omega (arith, start-grows a i h)

pub larger-same : (i j a b : ℕ) → place a b ≡ place i j → max a b ≡ max i j
unfolding place
larger-same i j a b e =
    omega (arith, not-before (max a b) (min a b) (max i j) (min i j) (omega arith) e, not-before (max i j) (min i j) (max a b) (min a b) (omega arith) (sym e))

pub smaller-same : (i j a b : ℕ) → place a b ≡ place i j → min a b ≡ min i j
unfolding place
smaller-same i j a b e =
    let q : row_start (max i j) + min a b ≡ row_start (max i j) + min i j = rw (larger-same i j a b e) at e in
    omega arith

-- ---- columns that share a place share their product
module _ (m : ℕ) (jacobian : Matrix) where
  ordered : (i j : ℕ) → normal_product m jacobian i j ≡ normal_product m jacobian (max i j) (min i j)
  ordered i j = go (ltb i j) refl
    where
      below : i < j → (j ≡ max i j) × (i ≡ min i j)
      below h = omega arith

      above : j ≤ i → (i ≡ max i j) × (j ≡ min i j)
      above h = omega arith

      go : (t : Bool) → ltb i j ≡ t → normal_product m jacobian i j ≡ normal_product m jacobian (max i j) (min i j)
      go true e = let p = below (ltb-true i j e) in symmetric m jacobian i j ∙ (λ t. normal_product m jacobian (p.0 t) (p.1 t))
      go false e = let p = above (omega (arith, ltb-false i j e)) in λ t. normal_product m jacobian (p.0 t) (p.1 t)

  pub place_same : (i j a b : ℕ) → place a b ≡ place i j → normal_product m jacobian i j ≡ normal_product m jacobian a b
  place_same i j a b e = ordered i j ∙ (λ t. normal_product m jacobian (sym (larger-same i j a b e) t) (sym (smaller-same i j a b e) t)) ∙ sym (ordered a b)
