-- Solving upward: what a turn of the loop over the unknowns leaves in scratch. Assumes nothing.
use mathlib.Core.Path.{◌≡◌, refl, sym, ap, ◌∙◌}
use mathlib.Core.List.{List, ◌∷◌}
use mathlib.Core.Logic.{inl}
use Prim.Native.Nat.{ℕ, zero, suc, ◌+◌, ◌-◌, ◌≤◌, ◌<◌}
use native.Mathlib.Omega.{arith}
use lib.ListN.{length, get_or, set}
use lib.Seq.{sets, ext_get_or}
use lib.Ieee.{Float, nan, binary64, sub, mul, div}
use Rattle.lists.specs.Tab.{length-tab, get_or-tab}
use Rattle.lists.specs.Parts.{get_or-sets-in, get_or-sets-out}
use Rattle.normal.specs.Layout.{scratch_length, step_at, system_place}
use Rattle.normal.specs.Products.{Matrix}
use Rattle.normal.specs.Elimination.{right_side, unknowns}
use Rattle.normal.specs.Scratch.{system_in}
use Rattle.normal.specs.Loops.{part_of, unknown_in}
use Rattle.normal.proofs.Parts.{sets-cons}

pub length-unknowns : (p : ℕ) (a : Matrix) (n : ℕ) → length (unknowns p a n) ≡ n
unfolding unknowns
length-unknowns p a zero = refl
length-unknowns p a (suc n) = ap suc (length-unknowns p a n)

-- a right side goes by its own entry and those of the columns that were subtracted
pub right-same : (p : ℕ) (a b : Matrix) (i : ℕ) (xs : List Float) (n : ℕ) → a i p ≡ b i p → ((k : ℕ) → k < n → a i (suc i + k) ≡ b i (suc i + k))
    → right_side p a i xs n ≡ right_side p b i xs n
unfolding right_side
right-same p a b i xs zero e h = e
right-same p a b i xs (suc n) e h =
    λ t. sub binary64 (right-same p a b i xs n e (λ k l. h k (omega arith)) t) (mul binary64 (h n (omega arith) t) (get_or xs n nan))

-- the unknowns go by the entries on and above the diagonal
pub unknowns-same : (p : ℕ) (a b : Matrix) → ((i j : ℕ) → i < p → i ≤ j → j ≤ p → a i j ≡ b i j) → (n : ℕ) → n ≤ p → unknowns p a n ≡ unknowns p b n
unfolding unknowns
unknowns-same p a b h zero l = refl
unknowns-same p a b h (suc n) l =
    let r = unknowns-same p a b h n (omega arith) in
    let i = p - suc n in
    λ t. div binary64 ((ap (λ (xs : List Float). right_side p a i xs n) r
    ∙ right-same p a b i (unknowns p b n) n (h i p (omega arith) (omega arith) (omega arith))
    (λ k s. h i (suc i + k) (omega arith) (omega arith) (omega arith))) t) (h i i (omega arith) (omega arith) (omega arith) t) ∷ r t

-- a part reads back as what was written
part-back : (l vs : List Float) (at n : ℕ) → length vs ≡ n → at + n ≤ length l → part_of (sets l at vs) at n ≡ vs
part-back l vs at n e h =
    ext_get_or nan (part_of (sets l at vs) at n) vs (length-tab _ n ∙ sym e)
    (λ i b. get_or-tab (λ (k : ℕ). get_or (sets l at vs) (at + k) nan) n i nan (rw (length-tab (λ (k : ℕ). get_or (sets l at vs) (at + k) nan) n) at b)
    ∙ get_or-sets-in vs l at i nan (rw (length-tab (λ (k : ℕ). get_or (sets l at vs) (at + k) nan) n, ← e) at b) (rw e h))

module _ (p i j : ℕ) (l q : List Float) (v : Float) (next : j ≡ suc i) (below : i < p) (most : p ≤ 8) (long : scratch_length ≤ length l) where
  abbrev known : List Float
  known = unknowns p (system_in l) (p - j)

  pub upward-turn : q ≡ sets l (step_at + j) known → v ≡ unknown_in p q i → set q (step_at + i) v ≡ sets l (step_at + i) (unknowns p (system_in l) (p - i))
  unfolding unknowns unknown_in
  upward-turn e ev =
      let n = p - j in
      let count : length known ≡ n = length-unknowns p (system_in l) n in
      let behind : p - suc i ≡ n = omega arith in
      let start : step_at + suc i ≡ step_at + j = omega arith in
      let back : part_of q (step_at + suc i) (p - suc i) ≡ known =
      (λ t. part_of (e t) (start t) (behind t)) ∙ part-back l known (step_at + j) n count (omega arith) in
      let same : (k : ℕ) → k ≤ p → system_in q i k ≡ system_in l i k =
      λ k b. ap (λ (x : List Float). get_or x (system_place i k) nan) e ∙ get_or-sets-out known l (step_at + j) (system_place i k) nan (inl (omega arith)) in
      let top : v ≡ div binary64 (right_side p (system_in l) i known n) (system_in l i i) =
      ev ∙ (λ t. div binary64 (right_side p (system_in q) i (back t) (behind t)) (system_in q i i))
      ∙ (λ t. div binary64 (right-same p (system_in q) (system_in l) i known n (same p (omega arith)) (λ k b. same (suc i + k) (omega arith)) t)
      (same i (omega arith) t)) in
      let here : p - suc n ≡ i = omega arith in
      let more : p - i ≡ suc n = omega arith in
      let all : unknowns p (system_in l) (p - i) ≡ v ∷ known =
      ap (unknowns p (system_in l)) more ∙ ap (λ (x : ℕ). div binary64 (right_side p (system_in l) x known n) (system_in l x x) ∷ known) here
      ∙ ap (λ (x : Float). x ∷ known) (sym top) in
      let first : step_at + j ≡ suc (step_at + i) = omega arith in
      (λ t. set ((e ∙ ap (λ (x : ℕ). sets l x known) first) t) (step_at + i) v) ∙ sets-cons known l (step_at + i) v ∙ ap (sets l (step_at + i)) (sym all)

pub upward-none : (p : ℕ) (l : List Float) → l ≡ sets l (step_at + p) (unknowns p (system_in l) (p - p))
unfolding unknowns
upward-none p l = ap (λ (n : ℕ). sets l (step_at + p) (unknowns p (system_in l) n)) (none p)
  where
    none : (p : ℕ) → 0 ≡ p - p
    none p = omega arith

pub upward-all : (p i : ℕ) (l q : List Float) → i ≡ 0 → q ≡ sets l (step_at + i) (unknowns p (system_in l) (p - i)) → q
    ≡ sets l step_at (unknowns p (system_in l) p)
upward-all p i l q e h =
    let at : step_at + i ≡ step_at = omega arith in
    let count : p - i ≡ p = omega arith in
    h ∙ (λ t. sets l (at t) (unknowns p (system_in l) (count t)))
