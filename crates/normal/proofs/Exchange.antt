-- The pivot is brought to the diagonal: what then stands in scratch is the system with two rows exchanged. Assumes nothing.
use mathlib.Core.Path.{◌≡◌, refl, sym, ap, ◌∙◌}
use mathlib.Core.List.{List}
use mathlib.Core.Logic.{◌⊎◌, inl, inr}
use mathlib.Core.Bool.{Bool, true, false, cond}
use Prim.Native.Nat.{ℕ, zero, suc, ◌+◌, ◌-◌, ◌≤◌, ◌<◌}
use native.Mathlib.Omega.{arith}
use lib.Dec.{ltb, eqb}
use lib.ListN.{length, get_or}
use lib.Seq.{sets, length-sets}
use lib.Ieee.{Float, nan, lt}
use borrow.Author.Tests.{ltb-true, ltb-false, eqb-true, eqb-false, eq-eqb, ne_eqb}
use Rattle.floats.specs.Basic.{magnitude}
use Rattle.normal.specs.Layout.{scratch_length, system_at, system_length, system_place}
use Rattle.normal.specs.Products.{Matrix}
use Rattle.normal.specs.Elimination.{pivot_row, exchanged, pivoted}
use Rattle.normal.specs.Scratch.{Outside, system_in}
use Rattle.normal.specs.Loops.{Live, part_of, parts_exchanged, pivot_brought}
use Rattle.normal.proofs.Parts.{part_in, part_out}
use Rattle.normal.proofs.Turns.{pivot-within}

-- ---- the pivot's row goes by its column, from the diagonal down
pub pivot-same : (a b : Matrix) (c n : ℕ) → ((r : ℕ) → c ≤ r → r ≤ c + n → a r c ≡ b r c) → pivot_row a c n ≡ pivot_row b c n
unfolding pivot_row
pivot-same a b c zero h = refl
pivot-same a b c (suc n) h =
    let e = pivot-same a b c n (λ r lo hi. h r lo (omega arith)) in
    let w = pivot-within b c n in
    let old : a (pivot_row a c n) c ≡ b (pivot_row b c n) c = ap (λ (r : ℕ). a r c) e ∙ h (pivot_row b c n) w.0 (omega arith) in
    λ t. cond (lt (magnitude (old t)) (magnitude (h (c + suc n) (omega arith) (omega arith) t))) (c + suc n) (e t)

-- ---- rows are apart
pub row_apart : (i r : ℕ) → (i ≡ r → ⊥) → (i < r) ⊎ (r < i)
row_apart i r n = go (ltb i r) refl
  where
    go : (b : Bool) → ltb i r ≡ b → (i < r) ⊎ (r < i)
    go true e = inl (ltb-true i r e)
    go false e = inr (omega (arith, ltb-false i r e))

other_row : (p i j r c : ℕ) → p ≤ 8 → j ≤ p → c ≤ p → (i ≡ r → ⊥) → Outside (system_place r c) (p + 1 - c) (system_place i j)
other_row p i j r c hp hj hc n = elim (row_apart i r n) [
  | inl b ↦ inl (omega arith)
  | inr b ↦ inr (omega arith)
]

-- ---- exchanged rows
module _ (r s : ℕ) (a : Matrix) (j : ℕ) where
  exchange-upper : exchanged r s a r j ≡ a s j
  unfolding exchanged
  exchange-upper = ap (λ (b : Bool). cond b (a s) (cond (eqb r s) (a r) (a r)) j) (eq-eqb r r refl)

  exchange-lower : (s ≡ r → ⊥) → exchanged r s a s j ≡ a r j
  unfolding exchanged
  exchange-lower n = ap (λ (b : Bool). cond b (a s) (cond (eqb s s) (a r) (a s)) j) (ne_eqb s r n) ∙ ap (λ (b : Bool). cond b (a r) (a s) j) (eq-eqb s s refl)

  exchange-other : (i : ℕ) → (i ≡ r → ⊥) → (i ≡ s → ⊥) → exchanged r s a i j ≡ a i j
  unfolding exchanged
  exchange-other i n m = ap (λ (b : Bool). cond b (a s) (cond (eqb i s) (a r) (a i)) j) (ne_eqb i r n) ∙ ap (λ (b : Bool). cond b (a r) (a i) j) (ne_eqb i s m)

exchange-self : (r : ℕ) (a : Matrix) (i j : ℕ) → exchanged r r a i j ≡ a i j
exchange-self r a i j = go (eqb i r) refl
  where
    go : (b : Bool) → eqb i r ≡ b → exchanged r r a i j ≡ a i j
    go true e = let q = eqb-true i r e in ap (λ (x : ℕ). exchanged r r a x j) q ∙ exchange-upper r r a j ∙ ap (λ (x : ℕ). a x j) (sym q)
    go false e = exchange-other r r a j i (eqb-false i r e) (eqb-false i r e)

-- ---- by the code's test; nothing outside the system's part changes
module _ (p c : ℕ) (l : List Float) where
  abbrev pub best : ℕ
  best = pivot_row (system_in l) c (p - suc c)

  pub brought-kept : best ≡ c → l ≡ pivot_brought p c l
  unfolding pivot_brought
  brought-kept e = ap (λ (b : Bool). cond b l (parts_exchanged (system_place c c) (system_place best c) (p + 1 - c) l)) (sym (eq-eqb best c e))

  pub brought-moved : (best ≡ c → ⊥) → parts_exchanged (system_place c c) (system_place best c) (p + 1 - c) l ≡ pivot_brought p c l
  unfolding pivot_brought
  brought-moved n = ap (λ (b : Bool). cond b l (parts_exchanged (system_place c c) (system_place best c) (p + 1 - c) l)) (sym (ne_eqb best c n))

  pub brought-long : length (pivot_brought p c l) ≡ length l
  unfolding pivot_brought
  brought-long = go (eqb best c)
    where
      go : (b : Bool) → length (cond b l (parts_exchanged (system_place c c) (system_place best c) (p + 1 - c) l)) ≡ length l
      go true = refl
      go false =
          length-sets (sets l (system_place c c) (part_of l (system_place best c) (p + 1 - c))) (system_place best c) (part_of l (system_place c c) (p + 1 - c))
          ∙ length-sets l (system_place c c) (part_of l (system_place best c) (p + 1 - c))

  pub brought-out : c < p → p ≤ 8 → (x : ℕ) → Outside system_at system_length x → get_or (pivot_brought p c l) x nan ≡ get_or l x nan
  unfolding pivot_brought
  brought-out below most x o = go (eqb best c)
    where
      narrow : (r : ℕ) → r < p → Outside system_at system_length x → Outside (system_place r c) (p + 1 - c) x
      narrow r h (inl b) = inl (omega arith)
      narrow r h (inr b) = inr (omega arith)

      within : best < p
      within = omega (arith, pivot-within (system_in l) c (p - suc c))

      go : (b : Bool) → get_or (cond b l (parts_exchanged (system_place c c) (system_place best c) (p + 1 - c) l)) x nan ≡ get_or l x nan
      go true = refl
      go false =
          part_out (λ (z : ℕ). get_or l (system_place c c + z) nan) (sets l (system_place c c) (part_of l (system_place best c) (p + 1 - c)))
          (system_place best c)
          (p + 1 - c) x nan (narrow best within o)
          ∙ part_out (λ (z : ℕ). get_or l (system_place best c + z) nan) l (system_place c c) (p + 1 - c) x nan (narrow c below o)

-- ---- the rows that are read again
module _ (p c : ℕ) (l : List Float) (a : Matrix) (below : c < p) (most : p ≤ 8) (long : scratch_length ≤ length l) (live : Live p c l a) where
  module _ (s : ℕ) (lower : c < s) (within : s < p) where
    abbrev A : ℕ
    A = system_place c c

    abbrev B : ℕ
    B = system_place s c

    abbrev n : ℕ
    n = p + 1 - c

    abbrev upper : List Float
    upper = sets l A (part_of l B n)

    exchanged-live : Live p c (parts_exchanged A B n l) (exchanged c s a)
    exchanged-live i j hi hc hj = go (eqb i c) refl (eqb i s) refl
      where
        at : ℕ → ℕ → Float
        at r k = get_or l (system_place r k) nan

        go : (b : Bool) → eqb i c ≡ b → (b' : Bool) → eqb i s ≡ b' → get_or (parts_exchanged A B n l) (system_place i j) nan ≡ exchanged c s a i j
        go true e b' e' =
            let q = eqb-true i c e in
            let k = j - c in
            let x : system_place i j ≡ A + k = omega arith in
            let y : B + k ≡ system_place s j = omega arith in
            ap (λ (z : ℕ). get_or (parts_exchanged A B n l) z nan) x
            ∙ part_out (λ (z : ℕ). get_or l (A + z) nan) upper B n (A + k) nan (inl (omega arith))
            ∙ part_in (λ (z : ℕ). get_or l (B + z) nan) l A n k nan (omega arith) (omega arith)
            ∙ ap (λ (z : ℕ). get_or l z nan) y
            ∙ live s j within (omega arith) hj
            ∙ sym (ap (λ (z : ℕ). exchanged c s a z j) q ∙ exchange-upper c s a j)
        go false e true e' =
            let q = eqb-true i s e' in
            let k = j - c in
            let x : system_place i j ≡ B + k = omega arith in
            let y : A + k ≡ system_place c j = omega arith in
            ap (λ (z : ℕ). get_or (parts_exchanged A B n l) z nan) x
            ∙ part_in (λ (z : ℕ). get_or l (A + z) nan) upper B n k nan (omega arith) (rw (length-sets l A (part_of l B n)) (omega arith))
            ∙ ap (λ (z : ℕ). get_or l z nan) y
            ∙ live c j below (omega arith) hj
            ∙ sym (ap (λ (z : ℕ). exchanged c s a z j) q ∙ exchange-lower c s a j (λ t. eqb-false i c e (q ∙ t)))
        go false e false e' =
            part_out (λ (z : ℕ). get_or l (A + z) nan) upper B n (system_place i j) nan (other_row p i j s c most hj (omega arith) (eqb-false i s e'))
            ∙ part_out (λ (z : ℕ). get_or l (B + z) nan) l A n (system_place i j) nan (other_row p i j c c most hj (omega arith) (eqb-false i c e))
            ∙ live i j hi hc hj
            ∙ sym (exchange-other c s a j i (eqb-false i c e) (eqb-false i s e'))

  best-same : best p c l ≡ pivot_row a c (p - suc c)
  best-same = pivot-same (system_in l) a c (p - suc c) (λ k lo hi. live k c (omega arith) (omega arith) (omega arith))

  -- the pivot is brought to the diagonal
  pub brought-live : Live p c (pivot_brought p c l) (pivoted p c a)
  unfolding pivot_brought pivoted
  brought-live = go (eqb (best p c l) c) refl
    where
      go : (b : Bool) → eqb (best p c l) c ≡ b → Live p c (cond b l (parts_exchanged (system_place c c) (system_place (best p c l) c) (p + 1 - c) l))
          (exchanged c (pivot_row a c (p - suc c)) a)
      go true e i j hi hc hj = live i j hi hc hj ∙ sym (ap (λ (z : ℕ). exchanged c z a i j) (sym best-same ∙ eqb-true (best p c l) c e) ∙ exchange-self c a i j)
      go false e i j hi hc hj =
          let w = pivot-within (system_in l) c (p - suc c) in
          let d = eqb-false (best p c l) c e in
          exchanged-live (best p c l) (omega arith) (omega arith) i j hi hc hj ∙ ap (λ (z : ℕ). exchanged c z a i j) best-same
