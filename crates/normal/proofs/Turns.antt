-- One turn of each loop of the elimination, over plain lists and matrices. Assumes nothing.
use mathlib.Core.Path.{◌≡◌, refl, sym, ap, ◌∙◌}
use mathlib.Core.List.{List, [], ◌∷◌}
use mathlib.Core.Logic.{inl, inr}
use mathlib.Core.Bool.{Bool, true, false, cond}
use Prim.Native.Nat.{ℕ, zero, suc, ◌+◌, ◌-◌, ◌≤◌, ◌<◌}
use native.Mathlib.Nat.{le_refl}
use native.Mathlib.Omega.{arith}
use lib.ListN.{length, get_or, set}
use lib.Seq.{sets}
use Rattle.std.specs.List.{swap}
use Rattle.std.proofs.lemmas.List.{get_or_default}
use lib.Ieee.{Float, nan, binary64, sub, mul, div, lt}
use Rattle.lists.specs.Tab.{tab, get_or-tab}
use Rattle.floats.specs.Basic.{magnitude}
use Rattle.normal.specs.Layout.{step_at, system_place}
use Rattle.normal.specs.Products.{Matrix}
use Rattle.normal.specs.Elimination.{pivot_row, right_side}
use Rattle.normal.specs.Scratch.{system_in}
use Rattle.normal.specs.Loops.{part_of, parts_exchanged, part_subtracted, unknown_in}
use Rattle.normal.proofs.Parts.{set-sets, part_step, part_out}

-- two entries exchanged, as writes of one behind the other
swapped : (l : List Float) (i j : ℕ) → i < length l → j < length l → swap l i j ≡ set (set l i (get_or l j nan)) j (get_or l i nan)
swapped [] i j h k = absurd (omega (arith, h))
swapped (d ∷ ys) i j h k = λ t. set (set (d ∷ ys) i (get_or_default (d ∷ ys) j d nan k t)) j (get_or_default (d ∷ ys) i d nan h t)

module _ (l : List Float) (a b n k : ℕ) (apart : a + n ≤ b) (below : k < n) where
  pub exchange-turn : (p : List Float) → p ≡ parts_exchanged a b k l → set (set p (a + k) (get_or p (b + k) nan)) (b + k) (get_or p (a + k) nan)
      ≡ parts_exchanged a b (k + 1) l
  exchange-turn p e =
      let f : ℕ → Float = λ (j : ℕ). get_or l (b + j) nan in
      let g : ℕ → Float = λ (j : ℕ). get_or l (a + j) nan in
      let q : List Float = sets l a (tab f k) in
      let upper : get_or p (a + k) nan ≡ g k =
      ap (λ (x : List Float). get_or x (a + k) nan) e ∙ part_out g q b k (a + k) nan (inl (omega arith))
      ∙ part_out f l a k (a + k) nan (inr (le_refl (a + k))) in
      let lower : get_or p (b + k) nan ≡ f k =
      ap (λ (x : List Float). get_or x (b + k) nan) e ∙ part_out g q b k (b + k) nan (inr (le_refl (b + k)))
      ∙ part_out f l a k (b + k) nan (inr (omega arith)) in
      let first : set p (a + k) (get_or p (b + k) nan) ≡ sets (sets l a (tab f (k + 1))) b (tab g k) =
      ap (λ (x : List Float). set x (a + k) (get_or p (b + k) nan)) e
      ∙ set-sets (tab g k) q b (a + k) (get_or p (b + k) nan) (inl (omega arith))
      ∙ ap (λ (x : List Float). sets x b (tab g k)) (part_step f l q a k (a + k) (get_or p (b + k) nan) refl refl lower) in
      part_step g (sets l a (tab f (k + 1))) (set p (a + k) (get_or p (b + k) nan)) b k (b + k) (get_or p (a + k) nan) first refl upper

  -- the same by std's `swap`
  pub swap-turn : (p : List Float) → p ≡ parts_exchanged a b k l → b + k < length p → swap p (a + k) (b + k) ≡ parts_exchanged a b (k + 1) l
  swap-turn p e room = swapped p (a + k) (b + k) (omega arith) room ∙ exchange-turn p e

  pub subtract-turn : (factor : Float) (p : List Float) → p ≡ part_subtracted a b k factor l
      → set p (b + k) (sub binary64 (get_or p (b + k) nan) (mul binary64 factor (get_or p (a + k) nan))) ≡ part_subtracted a b (k + 1) factor l
  subtract-turn factor p e =
      let f : ℕ → Float = λ (j : ℕ). sub binary64 (get_or l (b + j) nan) (mul binary64 factor (get_or l (a + j) nan)) in
      let lower : get_or p (b + k) nan ≡ get_or l (b + k) nan =
      ap (λ (x : List Float). get_or x (b + k) nan) e ∙ part_out f l b k (b + k) nan (inr (le_refl (b + k))) in
      let upper : get_or p (a + k) nan ≡ get_or l (a + k) nan = ap (λ (x : List Float). get_or x (a + k) nan) e
      ∙ part_out f l b k (a + k) nan (inl (omega arith)) in
      part_step f l p b k (b + k) _ e refl (λ i. sub binary64 (lower i) (mul binary64 factor (upper i)))

-- ---- a loop that starts behind c: how many it has passed at r
pub none_passed : (c : ℕ) → 0 ≡ c + 1 - suc c
none_passed c = omega arith

pub one_more : (c r : ℕ) → c < r → r + 1 - suc c ≡ suc (r - suc c)
one_more c r h = omega arith

pub passed : (c r : ℕ) → c < r → suc c + (r - suc c) ≡ r
passed c r h = omega arith

pub pivot-turn : (a : Matrix) (c r : ℕ) → c < r → pivot_row a c (r + 1 - suc c)
    ≡ cond (lt (magnitude (a (pivot_row a c (r - suc c)) c)) (magnitude (a r c))) r (pivot_row a c (r - suc c))
unfolding pivot_row
pivot-turn a c r h =
    let q : c + suc (r - suc c) ≡ r = omega arith in
    ap (pivot_row a c) (one_more c r h)
    ∙ ap (λ (x : ℕ). cond (lt (magnitude (a (pivot_row a c (r - suc c)) c)) (magnitude (a x c))) x (pivot_row a c (r - suc c)))
    q

pub right-turn : (p : ℕ) (a : Matrix) (i : ℕ) (xs : List Float) (k : ℕ) → i < k → right_side p a i xs (k + 1 - suc i)
    ≡ sub binary64 (right_side p a i xs (k - suc i)) (mul binary64 (a i k) (get_or xs (k - suc i) nan))
unfolding right_side
right-turn p a i xs k h =
    ap (right_side p a i xs) (one_more i k h)
    ∙ ap (λ (x : ℕ). sub binary64 (right_side p a i xs (k - suc i)) (mul binary64 (a i x) (get_or xs (k - suc i) nan)))
    (passed i k h)

-- a number of a part, counted from the part's first
pub in-part : (l : List Float) (at n k x : ℕ) → k < n → at + k ≡ x → get_or (part_of l at n) k nan ≡ get_or l x nan
in-part l at n k x h e = get_or-tab (λ (j : ℕ). get_or l (at + j) nan) n k nan h ∙ ap (λ (j : ℕ). get_or l j nan) e

-- ---- unknown i: its right side, one column after another, and the quotient
module _ (p i : ℕ) (l : List Float) where
  abbrev sofar : ℕ → Float
  sofar n = right_side p (system_in l) i (part_of l (step_at + suc i) (p - suc i)) n

  pub right-first : (x : ℕ) → x ≡ system_place i p → get_or l x nan ≡ sofar (i + 1 - suc i)
  unfolding right_side
  right-first x e = ap (λ (n : ℕ). get_or l n nan) e ∙ ap sofar (none_passed i)

  pub right-again : (k x : ℕ) (rest : Float) → i < k → k < p → rest ≡ sofar (k - suc i) → x ≡ system_place i k
      → sub binary64 rest (mul binary64 (get_or l x nan) (get_or l (step_at + k) nan)) ≡ sofar (k + 1 - suc i)
  right-again k x rest h b e ex =
      let y = in-part l (step_at + suc i) (p - suc i) (k - suc i) (step_at + k) (omega arith) (omega arith) in
      (λ n. sub binary64 (e n) (mul binary64 (get_or l (ex n) nan) (sym y n)))
      ∙ sym (right-turn p (system_in l) i (part_of l (step_at + suc i) (p - suc i)) k h)

  pub unknown-is : (k x : ℕ) (rest : Float) → k ≡ p → rest ≡ sofar (k - suc i) → x ≡ system_place i i → div binary64 rest (get_or l x nan) ≡ unknown_in p l i
  unfolding unknown_in
  unknown-is k x rest ek e ex = λ n. div binary64 ((e ∙ ap (λ (m : ℕ). sofar (m - suc i)) ek) n) (get_or l (ex n) nan)

-- ---- the pivot
pub pivot-first : (a : Matrix) (c : ℕ) → c ≡ pivot_row a c (c + 1 - suc c)
unfolding pivot_row
pivot-first a c = ap (pivot_row a c) (none_passed c)

-- the row that is kept as the largest, by the test
module _ (a : Matrix) (c r best : ℕ) (most size : Float) (below : c < r) (e : best ≡ pivot_row a c (r - suc c)) (m : most ≡ magnitude (a best c))
    (s : size ≡ magnitude (a r c)) where
  turned : (b : Bool) → lt most size ≡ b → pivot_row a c (r + 1 - suc c) ≡ cond b r best
  turned b h =
      pivot-turn a c r below ∙ (λ i. cond (lt (magnitude (a (e' i) c)) (s' i)) r (e' i)) ∙ (λ i. cond (lt (m' i) size) r best)
      ∙ ap (λ (x : Bool). cond x r best) h
    where
      e' : pivot_row a c (r - suc c) ≡ best
      e' = sym e

      s' : magnitude (a r c) ≡ size
      s' = sym s

      m' : magnitude (a best c) ≡ most
      m' = sym m

  pub pivot-lower : lt most size ≡ true → r ≡ pivot_row a c (r + 1 - suc c)
  pivot-lower h = sym (turned true h)

  pub pivot-upper : lt most size ≡ false → best ≡ pivot_row a c (r + 1 - suc c)
  pivot-upper h = sym (turned false h)

-- the pivot is found on or below the diagonal, among the rows looked at
either : (lo hi x y : ℕ) (b : Bool) → (lo ≤ x) × (x ≤ hi) → (lo ≤ y) × (y ≤ hi) → (lo ≤ cond b x y) × (cond b x y ≤ hi)
either lo hi x y true h k = h
either lo hi x y false h k = k

pub pivot-within : (a : Matrix) (c n : ℕ) → (c ≤ pivot_row a c n) × (pivot_row a c n ≤ c + n)
unfolding pivot_row
pivot-within a c zero = omega arith
pivot-within a c (suc n) =
    let h = pivot-within a c n in
    either c (c + suc n) (c + suc n) (pivot_row a c n) (lt (magnitude (a (pivot_row a c n) c)) (magnitude (a (c + suc n) c))) (omega arith) (omega arith)
