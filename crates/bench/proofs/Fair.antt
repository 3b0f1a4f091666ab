-- Dealt turns are fair, whoever deals by the rule. Assumes nothing.
use Rattle.std.specs.Prelude.{◌≡◌, refl, ◌⊎◌, ◌≢◌, Bool, false, List, ◌∷◌, take}
use Rattle.std.proofs.Common.{sym, ap, ◌∙◌, subst, eqb-true}
use Rattle.std.proofs.Math.Logic.{inl, inr}
use Rattle.std.proofs.Math.Bool.{true}
use Prim.Native.Nat.{ℕ, zero, suc, ◌+◌, ◌<◌, ◌≤◌}
use native.Mathlib.Omega.{arith}
use Rattle.std.proofs.Math.ListN.{length}
use Rattle.std.proofs.Math.Dec.{eqb}
use Rattle.std.proofs.lemmas.Bool.{eqb-false}
use Rattle.bench.specs.Dealing.{place_after, Found, at, nowhere, Dealer, next_served, served_if, served, Throughout, times}
use Rattle.bench.proofs.Rounds.{split, distance, Nearest, Says, found, nearer, keeps-order, turned-over, strictly, after_small}

-- served, or another
pub is-it : (p i : ℕ) → (eqb p i ≡ true) ⊎ (eqb p i ≡ false)
is-it p i = go (eqb p i) refl
  where
    go : (b : Bool) → eqb p i ≡ b → (eqb p i ≡ true) ⊎ (eqb p i ≡ false)
    go true e = inl e
    go false e = inr e

module _ {S : Type 0} (d : Dealer S) (moves : (s : S) (k : ℕ) → d.next (d.serve s k) ≡ place_after k)
    (apart : (s : S) (k i : ℕ) → i ≢ k → d.live (d.serve s k) i ≡ d.live s i) where
  next_small : (s : S) (k : ℕ) → d.next (d.serve s k) < 4
  next_small s k = subst (λ (x : ℕ). x < 4) (sym (moves s k)) (after_small k)

  module _ (s : S) (h : d.next s < 4) (k : ℕ) (w : Nearest (d.live s) (d.next s) k) where
    -- a live place that is not served comes nearer
    before-it : (i : ℕ) → i < 4 → d.live s i ≡ true → eqb k i ≡ false → distance (d.next s) k < distance (d.next s) i
    before-it i l t e = strictly (d.next s) k i h w.place l (w.none_nearer i l t) (λ p. eqb-false k i e (sym p))

    comes-nearer : (i m : ℕ) → i < 4 → d.live s i ≡ true → eqb k i ≡ false → distance (d.next s) i < suc m → distance (d.next (d.serve s k)) i < m
    comes-nearer i m l t e g =
        subst (λ (x : ℕ). distance x i < m) (sym (moves s k)) (less _ _ (nearer (d.next s) k i h w.place l (before-it i l t e)) g)
      where
        less : (a b : ℕ) → a < b → b < suc m → a < m
        less a b x y = omega arith

  -- "an unfinished, undamaged job is served within four turns dealt": one that is live stays so until it is served
  abbrev Within : (n m i : ℕ) → S → Type 0
  Within n m i s = d.next s < 4 → d.live s i ≡ true → distance (d.next s) i < m → m ≤ length (served d n s) → 0 < times i (take m (served d n s))

  within : (n m i : ℕ) → i < 4 → (s : S) → Within n m i s
  unfolding served
  within zero m i l s h t g q = absurd (omega arith)
  within (suc n) zero i l s h t g q = absurd (omega arith)
  within (suc n) (suc m) i l s h t g q = go (within n m i l) (next_served d s) (found (d.live s) (d.next s) h) q
    where
      go : ((s : S) → Within n m i s) → (f : Found) → Says (d.live s) (d.next s) f → suc m ≤ length (served_if d f (λ place. served d n (d.serve s place)))
          → 0 < times i (take (suc m) (served_if d f (λ place. served d n (d.serve s place))))
      go more nowhere w r = absurd (omega arith)
      go more (at k) w r = elim (is-it k i) [ inl e ↦ rw e one_more | inr e ↦ rw e (later e) ]
        where
          one_more : 0 < 1 + times i (take m (served d n (d.serve s k)))
          one_more = omega arith

          later : eqb k i ≡ false → 0 < 0 + times i (take m (served d n (d.serve s k)))
          later e =
              let stays = apart s k i (λ p. eqb-false k i e (sym p)) ∙ t in
              let once = more (d.serve s k) (next_small s k) stays (comes-nearer s h k w i m l t e g) (omega (arith, r)) in
              omega (arith, once)

  pub within-four : (n : ℕ) (s : S) (i : ℕ) → i < 4 → d.next s < 4 → d.live s i ≡ true → 4 ≤ length (served d n s) → 0 < times i (take 4 (served d n s))
  within-four n s i l h t q = within n 4 i l s h t (omega arith) q

  -- of two that are live throughout, that which is reached first is never behind, and never ahead by more than one
  abbrev Ahead : ℕ → ℕ → List ℕ → Type 0
  Ahead i j ps = (times j ps ≤ times i ps) × (times i ps ≤ times j ps + 1)

  abbrev AheadAt : ℕ → S → Type 0
  AheadAt n s = (i j : ℕ) → i < 4 → j < 4 → d.next s < 4 → Throughout d i s (served d n s) → Throughout d j s (served d n s)
      → distance (d.next s) i < distance (d.next s) j → Ahead i j (served d n s)

  ahead : (n : ℕ) (s : S) → AheadAt n s
  unfolding served
  ahead zero s i j l m h u v g = (omega arith, omega arith)
  ahead (suc n) s i j l m h u v g = go (ahead n) (next_served d s) (found (d.live s) (d.next s) h) u v
    where
      go : ((s : S) → AheadAt n s) → (f : Found) → Says (d.live s) (d.next s) f → Throughout d i s (served_if d f (λ place. served d n (d.serve s place)))
          → Throughout d j s (served_if d f (λ place. served d n (d.serve s place))) → Ahead i j (served_if d f (λ place. served d n (d.serve s place)))
      go more nowhere w u v = (omega arith, omega arith)
      go more (at k) w u v = elim (is-it k i) [
        | inl e ↦ served-i e
        | inr e ↦ elim (is-it k j) [ inl e' ↦ absurd (behind e') | inr e' ↦ served-other e e' ]
      ]
        where
          behind : eqb k j ≡ true → ⊥
          behind e = not_so _ _ _ (w.none_nearer i l u.0) g (ap (distance (d.next s)) (eqb-true k j e))
            where
              not_so : (a b c : ℕ) → a ≤ b → b < c → a ≡ c → ⊥
              not_so a b c x y z = omega arith

          differ : i ≢ j
          differ p = irrefl _ (subst (λ (x : ℕ). distance (d.next s) i < distance (d.next s) x) (sym p) g)
            where
              irrefl : (a : ℕ) → a < a → ⊥
              irrefl a h = omega arith

          served-other : eqb k i ≡ false → eqb k j ≡ false → Ahead i j (k ∷ served d n (d.serve s k))
          served-other e f =
              let a = more (d.serve s k) i j l m (next_small s k) u.1 v.1
              (subst (λ (x : ℕ). distance x i < distance x j) (sym (moves s k))
              (keeps-order (d.next s) k i j h w.place l m (before-it s h k w i l u.0 e) g)) in
              rw (e, f) (omega (arith, a.0), omega (arith, a.1))

          served-i : eqb k i ≡ true → Ahead i j (k ∷ served d n (d.serve s k))
          served-i e =
              let a = more (d.serve s k) j i m l (next_small s k) v.1 u.1
              (subst (λ (x : ℕ). distance x j < distance x i) (sym (moves s k ∙ ap place_after (eqb-true k i e))) (turned-over i j l m differ)) in
              let none : eqb k j ≡ false = elim (is-it k j) [ inl p ↦ absurd (differ (sym (eqb-true k i e) ∙ eqb-true k j p)) | inr p ↦ p ] in
              rw (e, none) (omega (arith, a.1), omega (arith, a.0))

  -- "two jobs unfinished and undamaged throughout differ by at most one in the turns dealt to them"
  pub fair : (n : ℕ) (s : S) (i j : ℕ) → i < 4 → j < 4 → d.next s < 4 → Throughout d i s (served d n s) → Throughout d j s (served d n s)
      → times i (served d n s) ≤ times j (served d n s) + 1
  fair n s i j l m h u v = elim (split (distance (d.next s) i) (distance (d.next s) j)) [
    | inl g ↦ (ahead n s i j l m h u v g).1
    | inr g ↦ elim (is-it i j) [
      | inl e ↦ subst (λ (x : ℕ). times i (served d n s) ≤ times x (served d n s) + 1) (eqb-true i j e) (omega arith)
      | inr e ↦ let a = ahead n s j i m l h v u (strictly (d.next s) j i h m l g (eqb-false i j e)) in omega (arith, a.0)
    ]
  ]
