-- The rows below the pivot are reduced: what then stands in scratch is the reduced system, wherever it is read again. Assumes nothing.
use mathlib.Core.Path.{◌≡◌, refl, sym, ap, ◌∙◌}
use mathlib.Core.List.{List}
use mathlib.Core.Logic.{◌⊎◌, inl, inr}
use mathlib.Core.Bool.{Bool, true, false, cond}
use Prim.Native.Nat.{ℕ, zero, suc, min, ◌+◌, ◌-◌, ◌≤◌, ◌<◌}
use native.Mathlib.Omega.{arith}
use lib.Dec.{eqb}
use lib.ListN.{length, get_or}
use lib.Seq.{length-sets}
use lib.Ieee.{Float, nan, binary64, sub, mul, div}
use borrow.Author.Tests.{eqb-true, eqb-false, lt-ltb, le-ltb}
use Rattle.lists.specs.Tab.{tab}
use Rattle.normal.specs.Layout.{scratch_length, system_at, system_length, system_place}
use Rattle.normal.specs.Products.{Matrix}
use Rattle.normal.specs.Elimination.{reduced}
use Rattle.normal.specs.Scratch.{Outside}
use Rattle.normal.specs.Loops.{Live, row_reduced, rows_reduced}
use Rattle.normal.proofs.Parts.{part_in, part_out}
use Rattle.normal.proofs.Exchange.{row_apart}

reduced-above : (c : ℕ) (a : Matrix) (i j : ℕ) → i ≤ c → reduced c a i j ≡ a i j
unfolding reduced
reduced-above c a i j h = ap (λ (b : Bool). cond b (sub binary64 (a i j) (mul binary64 (div binary64 (a i c) (a c c)) (a c j))) (a i j)) (le-ltb c i h)

reduced-below : (c : ℕ) (a : Matrix) (i j : ℕ) → c < i → reduced c a i j ≡ sub binary64 (a i j) (mul binary64 (div binary64 (a i c) (a c c)) (a c j))
unfolding reduced
reduced-below c a i j h = ap (λ (b : Bool). cond b (sub binary64 (a i j) (mul binary64 (div binary64 (a i c) (a c c)) (a c j))) (a i j)) (lt-ltb c i h)

module _ (p c r : ℕ) (pivot : Float) (l : List Float) where
  abbrev rule : ℕ → Float
  rule k = sub binary64 (get_or l (system_place r (c + 1) + k) nan)
      (mul binary64 (div binary64 (get_or l (system_place r c) nan) pivot) (get_or l (system_place c (c + 1) + k) nan))

  pub row-long : length (row_reduced p c pivot r l) ≡ length l
  unfolding row_reduced
  row-long = length-sets l (system_place r (c + 1)) (tab rule (p - c))

-- what one row is, and that no other changes
module _ (p c r : ℕ) (pivot : Float) (l : List Float) (upper : c < r) (below : r < p) (most : p ≤ 8) (long : scratch_length ≤ length l) where
  row_in : (j : ℕ) → c < j → j ≤ p → get_or (row_reduced p c pivot r l) (system_place r j) nan
      ≡ sub binary64 (get_or l (system_place r j) nan) (mul binary64 (div binary64 (get_or l (system_place r c) nan) pivot) (get_or l (system_place c j) nan))
  unfolding row_reduced
  row_in j hc hj =
      let k = j - (c + 1) in
      let x : system_place r (c + 1) + k ≡ system_place r j = omega arith in
      let y : system_place c (c + 1) + k ≡ system_place c j = omega arith in
      ap (λ (z : ℕ). get_or (row_reduced p c pivot r l) z nan) (sym x)
      ∙ part_in (rule p c r pivot l) l (system_place r (c + 1)) (p - c) k nan (omega arith) (omega arith)
      ∙ (λ t. sub binary64 (get_or l (x t) nan) (mul binary64 (div binary64 (get_or l (system_place r c) nan) pivot) (get_or l (y t) nan)))

  pub row_out : (x : ℕ) → Outside (system_place r (c + 1)) (p - c) x → get_or (row_reduced p c pivot r l) x nan ≡ get_or l x nan
  unfolding row_reduced
  row_out x o = part_out (rule p c r pivot l) l (system_place r (c + 1)) (p - c) x nan o

  row_other : (i j : ℕ) → j ≤ p → (i ≡ r → ⊥) → get_or (row_reduced p c pivot r l) (system_place i j) nan ≡ get_or l (system_place i j) nan
  row_other i j hj n = row_out (system_place i j) (go (row_apart i r n))
    where
      go : (i < r) ⊎ (r < i) → Outside (system_place r (c + 1)) (p - c) (system_place i j)
      go (inl b) = inl (omega arith)
      go (inr b) = inr (omega arith)

  row-left : (j : ℕ) → j ≤ c → get_or (row_reduced p c pivot r l) (system_place r j) nan ≡ get_or l (system_place r j) nan
  row-left j h = row_out (system_place r j) (inl (omega arith))

-- after n rows: those are reduced from behind column c on, and the rows below them are as they were
pub record Partly (p c n : ℕ) (l : List Float) (a : Matrix) : Type 0 where
  pub done : (i j : ℕ) → i < suc c + n → min i (suc c) ≤ j → j ≤ p → get_or l (system_place i j) nan ≡ reduced c a i j
  pub left : (i j : ℕ) → suc c + n ≤ i → i < p → c ≤ j → j ≤ p → get_or l (system_place i j) nan ≡ a i j

module _ (p c n : ℕ) (q : List Float) (a : Matrix) (pivot : Float) (below : suc c + n < p) (most : p ≤ 8) (long : scratch_length ≤ length q)
    (is : pivot ≡ a c c)
    (w : Partly p c n q a) where
  abbrev r : ℕ
  r = suc c + n

  here : (j : ℕ) → c < j → j ≤ p → get_or (row_reduced p c pivot r q) (system_place r j) nan ≡ reduced c a r j
  here j hc hj =
      row_in p c r pivot q (omega arith) below most long j hc hj
      ∙ (λ t. sub binary64 (w.left r j (omega arith) below (omega arith) hj t)
      (mul binary64 (div binary64 (w.left r c (omega arith) below (omega arith) (omega arith) t) (is t))
      ((w.done c j (omega arith) (omega arith) hj ∙ reduced-above c a c j (omega arith)) t)))
      ∙ sym (reduced-below c a r j (omega arith))

  other : (i j : ℕ) → j ≤ p → (i ≡ r → ⊥) → get_or (row_reduced p c pivot r q) (system_place i j) nan ≡ get_or q (system_place i j) nan
  other = row_other p c r pivot q (omega arith) below most long

  partly_more : Partly p c (suc n) (row_reduced p c pivot (suc c + n) q) a
  partly_more = record {
    done = λ i j hi hc hj. go i j hi hc hj (eqb i r) refl;
    left = λ i j hr hi hc hj. other i j hj (omega arith) ∙ w.left i j (omega arith) hi hc hj;
  }
    where
      go : (i j : ℕ) → i < suc c + suc n → min i (suc c) ≤ j → j ≤ p → (b : Bool) → eqb i r ≡ b → get_or (row_reduced p c pivot r q) (system_place i j) nan
          ≡ reduced c a i j
      go i j hi hc hj true e =
          let x = eqb-true i r e in
          ap (λ (z : ℕ). get_or (row_reduced p c pivot r q) (system_place z j) nan) x ∙ here j (omega arith) hj ∙ ap (λ (z : ℕ). reduced c a z j) (sym x)
      go i j hi hc hj false e =
          let x = eqb-false i r e in
          other i j hj x ∙ w.done i j (omega arith) hc hj

module _ (p c : ℕ) (l : List Float) (pivot : Float) (below : c < p) (most : p ≤ 8) (long : scratch_length ≤ length l) where
  pub rows_long : (n : ℕ) → length (rows_reduced p c pivot n l) ≡ length l
  unfolding rows_reduced
  rows_long zero = refl
  rows_long (suc n) = row-long p c (suc c + n) pivot (rows_reduced p c pivot n l) ∙ rows_long n

  enough : (n : ℕ) → scratch_length ≤ length (rows_reduced p c pivot n l)
  enough n = rw (rows_long n) long

  -- nothing outside the system's part changes
  pub rows_out : (n : ℕ) → suc c + n ≤ p → (x : ℕ) → Outside system_at system_length x → get_or (rows_reduced p c pivot n l) x nan ≡ get_or l x nan
  unfolding rows_reduced
  rows_out zero h x o = refl
  rows_out (suc n) h x o =
      row_out p c (suc c + n) pivot (rows_reduced p c pivot n l) (omega arith) (omega arith) most (enough n) x (go o) ∙ rows_out n (omega arith) x o
    where
      go : Outside system_at system_length x → Outside (system_place (suc c + n) (c + 1)) (p - c) x
      go (inl b) = inl (omega arith)
      go (inr b) = inr (omega arith)

  module _ (a : Matrix) (live : Live p c l a) (is : pivot ≡ a c c) where
    rows-partly : (n : ℕ) → suc c + n ≤ p → Partly p c n (rows_reduced p c pivot n l) a
    unfolding rows_reduced
    rows-partly zero h = record {
      done = λ i j hi hc hj. live i j (omega arith) (omega arith) hj ∙ sym (reduced-above c a i j (omega arith));
      left = λ i j hr hi hc hj. live i j hi (omega arith) hj;
    }
    rows-partly (suc n) h = partly_more p c n (rows_reduced p c pivot n l) a pivot (omega arith) most (enough n) is (rows-partly n (omega arith))

    pub reduced-live : Live p (suc c) (rows_reduced p c pivot (p - suc c) l) (reduced c a)
    reduced-live i j hi hc hj = (rows-partly (p - suc c) (omega arith)).done i j (omega arith) hc hj
