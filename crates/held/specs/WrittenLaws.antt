-- A list that is written from the front, some entries at a time. Assumes nothing.
use Rattle.std.specs.Prelude.{◌≡◌, ℕ, suc, ◌+◌, ◌≤◌, length, set, take, drop}
use Rattle.std.proofs.Common.{sym, ◌∙◌, add-one, arith, length-append, take_at, length-take-le}
use Rattle.std.proofs.Math.Path.{ap}
use mathlib.Core.List.{List, [], ◌∷◌, ◌++◌, append_assoc}
use Rattle.std.proofs.lemmas.List.Edits.{sets, sets-eq}
use Rattle.lists.specs.Tab.{tab}
use Rattle.held.specs.Written.{in_turn}

two-on : (at : ℕ) → at + 2 ≡ suc (suc at)
two-on at = omega arith

three-on : (at : ℕ) → at + 3 ≡ suc (suc (suc at))
three-on at = omega arith

four-on : (at : ℕ) → at + 4 ≡ suc (suc (suc (suc at)))
four-on at = omega arith

module _ {A : Type 0} where
  -- stores one after the other are one part written
  pub two-stores : (l : List A) (at : ℕ) (a b : A) → set (set l at a) (at + 1) b ≡ sets l at (a ∷ b ∷ [])
  two-stores l at a b = ap (λ (k : ℕ). set (set l at a) k b) (add-one at)

  pub three-stores : (l : List A) (at : ℕ) (a b c : A) → set (set (set l at a) (at + 1) b) (at + 2) c ≡ sets l at (a ∷ b ∷ c ∷ [])
  three-stores l at a b c = λ i. set (set (set l at a) (add-one at i) b) (two-on at i) c

  pub five-stores : (l : List A) (at : ℕ) (a b c d e : A)
      → set (set (set (set (set l at a) (at + 1) b) (at + 2) c) (at + 3) d) (at + 4) e ≡ sets l at (a ∷ b ∷ c ∷ d ∷ e ∷ [])
  five-stores l at a b c d e = λ i. set (set (three-stores l at a b c i) (three-on at i) d) (four-on at i) e

  -- the front is longer by the part
  pub front-more : (l p vs : List A) (at next : ℕ) → take at l ≡ p → at + length vs ≡ next → next ≤ length l → take next (sets l at vs) ≡ p ++ vs
  front-more l p vs at next e n h =
      ap (take next) (sets-eq vs l at (room at (length vs) next (length l) n h))
      ∙ take_at (take at l ++ vs) (drop (at + length vs) l) next
      (length-append (take at l) vs ∙ ap (λ (k : ℕ). k + length vs) (length-take-le at l (below at (length vs) next (length l) n h)) ∙ n)
      ∙ ap (λ (q : List A). q ++ vs) e
    where
      room : (a k n m : ℕ) → a + k ≡ n → n ≤ m → a + k ≤ m
      room a k n m e h = omega arith

      below : (a k n m : ℕ) → a + k ≡ n → n ≤ m → a ≤ m
      below a k n m e h = omega arith

  -- a turn of a loop that writes part i
  pub turn_more : (f : ℕ → List A) (i at next : ℕ) (l p : List A) → take at l ≡ p ++ in_turn f i → at + length (f i) ≡ next → next ≤ length l
      → take next (sets l at (f i)) ≡ p ++ in_turn f (i + 1)
  unfolding in_turn
  turn_more f i at next l p e n h =
      front-more l (p ++ in_turn f i) (f i) at next e n h ∙ append_assoc p (in_turn f i) (f i) ∙ ap (λ (k : ℕ). p ++ in_turn f k) (sym (add-one i))

  -- and of one that writes entry k of a list made by a rule
  pub entry_more : (g : ℕ → A) (k at next : ℕ) (l p : List A) (v : A) → take at l ≡ p ++ tab g k → v ≡ g k → at + 1 ≡ next → next ≤ length l
      → take next (set l at v) ≡ p ++ tab g (k + 1)
  unfolding tab
  entry_more g k at next l p v e f n h =
      front-more l (p ++ tab g k) (v ∷ []) at next e n h
      ∙ append_assoc p (tab g k) (v ∷ [])
      ∙ ap (λ (a : A). p ++ (tab g k ++ (a ∷ []))) f
      ∙ ap (λ (j : ℕ). p ++ tab g j) (sym (add-one k))
