-- Turns dealt: in front of some, and behind them. Assumes nothing.
use Rattle.std.specs.Prelude.{◌≡◌, Bool, true, false, ◌⊎◌}
use Rattle.std.proofs.Math.Path.{refl, sym, ap, subst}
use Rattle.std.proofs.Common.{◌∙◌, true≢false, zero-add, suc-add}
use mathlib.Core.List.{List, [], ◌∷◌, ◌++◌}
use Rattle.std.proofs.Math.Logic.{inl, inr}
use Prim.Native.Nat.{ℕ, zero, suc, ◌+◌, ◌≤◌, ◌<◌}
use native.Mathlib.Omega.{arith}
use Rattle.std.proofs.Math.ListN.{length}
use Rattle.bench.specs.Dealing.{place_after, Found, at, nowhere, Dealer, next_served, served_if, served, next_after}
use Rattle.bench.specs.Book.{left_by}
use Rattle.bench.proofs.Rounds.{Says, found, after_small}

-- lists that are equal have equal beginnings and ends
head_or : ℕ → List ℕ → ℕ
head_or e [] = e
head_or e (p ∷ ps) = p

tail_of : List ℕ → List ℕ
tail_of [] = []
tail_of (p ∷ ps) = ps

is_none : List ℕ → Bool
is_none [] = true
is_none (p ∷ ps) = false

pub some-are : (p : ℕ) (ps : List ℕ) → [] ≡ p ∷ ps → ⊥
unfolding is_none
some-are p ps e = true≢false (ap is_none e)

module _ {S : Type 0} (d : Dealer S) where
  none_left : (n : ℕ) (s : S) → next_served d s ≡ nowhere → served d n s ≡ []
  unfolding served
  none_left zero s e = refl
  none_left (suc n) s e = ap (λ (f : Found). served_if d f (λ place. served d n (d.serve s place))) e

  -- of m turns and then n, where the first of them is this one
  abbrev Both : (m n : ℕ) → S → Found → Type 0
  Both m n s f =
      served_if d f (λ place. served d m (d.serve s place)) ++ served d n (left_by d.serve s (served_if d f (λ place. served d m (d.serve s place))))
      ≡ served_if d f (λ place. served d (m + n) (d.serve s place))

  -- dealings one after the other are one dealing of all their turns
  pub one-after-another : (m n : ℕ) (s : S) → served d m s ++ served d n (left_by d.serve s (served d m s)) ≡ served d (m + n) s
  unfolding served left_by
  one-after-another zero n s = ap (λ (k : ℕ). served d k s) (sym (zero-add n))
  one-after-another (suc m) n s = go (next_served d s) refl (one-after-another m n) ∙ ap (λ (k : ℕ). served d k s) (sym (suc-add m n))
    where
      go : (f : Found) → next_served d s ≡ f → ((s : S) → served d m s ++ served d n (left_by d.serve s (served d m s)) ≡ served d (m + n) s)
          → Both m n s (next_served d s)
      go nowhere e more = subst (Both m n s) (sym e) (none_left n s e)
      go (at k) e more = subst (Both m n s) (sym e) (ap (λ (ps : List ℕ). k ∷ ps) (more (d.serve s k)))

  -- "hands out N working turns": no more
  pub at_most : (n : ℕ) (s : S) → length (served d n s) ≤ n
  unfolding served
  at_most zero s = omega arith
  at_most (suc n) s = go (next_served d s) (at_most n)
    where
      go : (f : Found) → ((s : S) → length (served d n s) ≤ n) → length (served_if d f (λ place. served d n (d.serve s place))) ≤ suc n
      go nowhere more = omega arith
      go (at k) more = let h : length (served d n (d.serve s k)) ≤ n = more (d.serve s k) in omega arith

  -- "until N are spent or no job is left"
  pub until : (n : ℕ) (s : S) → (length (served d n s) ≡ n) ⊎ (next_served d (left_by d.serve s (served d n s)) ≡ nowhere)
  unfolding served left_by
  until zero s = inl refl
  until (suc n) s = go (next_served d s) refl (until n)
    where
      go : (f : Found) → next_served d s ≡ f → ((s : S) → (length (served d n s) ≡ n) ⊎ (next_served d (left_by d.serve s (served d n s)) ≡ nowhere))
          → (length (served_if d f (λ place. served d n (d.serve s place))) ≡ suc n)
          ⊎ (next_served d (left_by d.serve s (served_if d f (λ place. served d n (d.serve s place)))) ≡ nowhere)
      go nowhere e more = inr e
      go (at k) e more = elim (more (d.serve s k)) [ inl h ↦ inl (ap suc h) | inr h ↦ inr h ]

  -- the turns behind some of them are those of a dealing on what these leave
  pub behind : (ps : List ℕ) (n : ℕ) (s : S) (qs : List ℕ) → served d n s ≡ ps ++ qs → (m : ℕ) × (qs ≡ served d m (left_by d.serve s ps))
  unfolding served left_by tail_of head_or
  behind [] n s qs e = (n, sym e)
  behind (p ∷ ps) zero s qs e = absurd (some-are _ _ e)
  behind (p ∷ ps) (suc n) s qs e = go (next_served d s) (behind ps n) e
    where
      go : (f : Found) → ((s : S) (qs : List ℕ) → served d n s ≡ ps ++ qs → (m : ℕ) × (qs ≡ served d m (left_by d.serve s ps)))
          → served_if d f (λ place. served d n (d.serve s place)) ≡ (p ∷ ps) ++ qs → (m : ℕ) × (qs ≡ served d m (left_by d.serve (d.serve s p) ps))
      go nowhere more e = absurd (some-are _ _ e)
      go (at k) more e =
          more (d.serve s p) qs (subst (λ (x : ℕ). served d n (d.serve s x) ≡ ps ++ qs) (ap (head_or 0) e) (ap tail_of e))

  -- before each of the turns its place is one of the four and has a job to serve
  abbrev pub EachLive : S → List ℕ → Type 0
  EachLive s [] = Unit
  EachLive s (p ∷ ps) = (p < 4) × (d.live s p ≡ true) × EachLive (d.serve s p) ps

  module _ (moves : (s : S) (k : ℕ) → d.next (d.serve s k) ≡ place_after k) where
    -- "the place to go next .. the one after the last served"
    pub next-after : (s : S) (ps : List ℕ) → d.next (left_by d.serve s ps) ≡ next_after (d.next s) ps
    unfolding left_by
    next-after s [] = refl
    next-after s (p ∷ ps) = next-after (d.serve s p) ps ∙ ap (λ (n : ℕ). next_after n ps) (moves s p)

    -- it is one of the four
    pub next-below : (s : S) (ps : List ℕ) → d.next s < 4 → d.next (left_by d.serve s ps) < 4
    unfolding left_by
    next-below s [] h = h
    next-below s (p ∷ ps) h = next-below (d.serve s p) ps (subst (λ (n : ℕ). n < 4) (sym (moves s p)) (after_small p))

    pub each_live : (n : ℕ) (s : S) → d.next s < 4 → EachLive s (served d n s)
    unfolding served
    each_live zero s h = tt
    each_live (suc n) s h = go (next_served d s) (found (d.live s) (d.next s) h) (each_live n)
      where
        go : (f : Found) → Says (d.live s) (d.next s) f → ((s : S) → d.next s < 4 → EachLive s (served d n s))
            → EachLive s (served_if d f (λ place. served d n (d.serve s place)))
        go nowhere w more = tt
        go (at k) w more = (w.place, w.passes, more (d.serve s k) (subst (λ (n : ℕ). n < 4) (sym (moves s k)) (after_small k)))
