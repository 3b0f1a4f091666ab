-- Lists of which some entries are in use and all others are zero, and loops that clear the others. Assumes nothing.
use Rattle.std.specs.Prelude.{◌≡◌, refl, Bool, true, false, cond, List, ◌≢◌, ℕ, ◌+◌, ◌≤◌, ◌<◌, ltb, length, get_or, set}
use Rattle.std.proofs.Common.{sym, ap, ◌∙◌, inl, inr, eq-or-lt_of_le, le_of_suc-le-suc, add-one, arith, length-set, get_or-set_same, get_or-set_other}
use Rattle.std.proofs.Common.{ext_get_or, lt-ltb}
use Rattle.std.proofs.lemmas.Bool.{false≢true}
use Rattle.lists.specs.Tab.{tab, length-tab, get_or-tab, tab-same}

module _ {A : Type 0} where
  -- of size entries those in use, and z in place of the others
  abbrev pub kept : (used : ℕ → Bool) (entry : ℕ → A) (z : A) (size : ℕ) → List A
  kept used entry z size = tab (λ (i : ℕ). cond (used i) (entry i) z) size

  length-kept : (used : ℕ → Bool) (entry : ℕ → A) (z : A) (n : ℕ) → length (kept used entry z n) ≡ n
  length-kept used entry z n = length-tab _ n

  pub kept-used : (used : ℕ → Bool) (entry : ℕ → A) (z : A) (n i : ℕ) (d : A) → i < n → used i ≡ true → get_or (kept used entry z n) i d ≡ entry i
  kept-used used entry z n i d h u = get_or-tab _ n i d h ∙ rw u

  pub kept-unused : (used : ℕ → Bool) (entry : ℕ → A) (z : A) (n i : ℕ) (d : A) → i < n → used i ≡ false → get_or (kept used entry z n) i d ≡ z
  kept-unused used entry z n i d h u = get_or-tab _ n i d h ∙ rw u

  -- what is in use decides the list, and the list what is in use
  pub kept_same : (used : ℕ → Bool) (e f : ℕ → A) (z : A) (n : ℕ) → ((i : ℕ) → i < n → used i ≡ true → e i ≡ f i) → kept used e z n ≡ kept used f z n
  kept_same used e f z n h = tab-same _ _ n (λ i l. at i l (used i) refl)
    where
      at : (i : ℕ) → i < n → (b : Bool) → used i ≡ b → cond b (e i) z ≡ cond b (f i) z
      at i l true u = h i l u
      at i l false u = refl

  pub kept-agrees : (used : ℕ → Bool) (e f : ℕ → A) (z : A) (n i : ℕ) → kept used e z n ≡ kept used f z n → i < n → used i ≡ true → e i ≡ f i
  kept-agrees used e f z n i p h u = sym (kept-used used e z n i z h u) ∙ ap (λ (l : List A). get_or l i z) p ∙ kept-used used f z n i z h u

-- A loop has come to i; of the entries before i those not in use are z now.
pub record Clearing {A : Type 0} (used : ℕ → Bool) (z d : A) (start l : List A) (i : ℕ) : Type 0 where
  pub full : length l ≡ length start
  pub stays : (k : ℕ) → used k ≡ true → get_or l k d ≡ get_or start k d
  pub cleared : (k : ℕ) → k < length start → k < i → used k ≡ false → get_or l k d ≡ z
  pub ahead : (k : ℕ) → i ≤ k → get_or l k d ≡ get_or start k d

module _ {A : Type 0} (used : ℕ → Bool) (z d : A) (start : List A) where
  -- nothing has to be cleared before i
  pub clear-begin : (i : ℕ) → ((k : ℕ) → k < i → used k ≡ true) → Clearing used z d start start i
  clear-begin i h = record { full = refl; stays = λ k u. refl; cleared = λ k l m u. absurd (false≢true (sym u ∙ h k m)); ahead = λ k m. refl }

  module _ {l : List A} {i : ℕ} (c : Clearing used z d start l i) where
    pub clear-more : (l' : List A) → l' ≡ set l i z → i < length start → used i ≡ false → Clearing used z d start l' (i + 1)
    clear-more l' e h u = record {
      full = ap length e ∙ simp length-set c.full;
      stays = λ k v. rw e (get_or-set_other l i k z d (other k v) ∙ c.stays k v);
      cleared = λ k n m v. rw e (now k n m v);
      ahead = λ k m. rw e (get_or-set_other l i k z d (beyond k m) ∙ c.ahead k (omega arith));
    }
      where
        other : (k : ℕ) → used k ≡ true → k ≢ i
        other k v q = false≢true (sym u ∙ ap used (sym q) ∙ v)

        beyond : (k : ℕ) → i + 1 ≤ k → k ≢ i
        beyond k m = omega arith

        now : (k : ℕ) → k < length start → k < i + 1 → used k ≡ false → get_or (set l i z) k d ≡ z
        now k n m v = elim (eq-or-lt_of_le (le_of_suc-le-suc (rw add-one at m))) [
          | inl q ↦ rw q (get_or-set_same l i z d (rw c.full h))
          | inr b ↦ get_or-set_other l i k z d (omega arith) ∙ c.cleared k n b v
        ]

    pub clear-past : (l' : List A) → l' ≡ l → used i ≡ true → Clearing used z d start l' (i + 1)
    clear-past l' e u = record {
      full = ap length e ∙ c.full;
      stays = λ k v. rw e (c.stays k v);
      cleared = λ k n m v. elim (eq-or-lt_of_le (le_of_suc-le-suc (rw add-one at m))) [
        | inl q ↦ absurd (false≢true (sym v ∙ ap used q ∙ u))
        | inr b ↦ rw e (c.cleared k n b v)
      ];
      ahead = λ k m. rw e (c.ahead k (omega arith));
    }

    pub clear-end : (n : ℕ) → length start ≡ n → n ≤ i → l ≡ kept used (λ (k : ℕ). get_or start k d) z n
    clear-end n e h =
        ext_get_or d l (kept used (λ (k : ℕ). get_or start k d) z n) (c.full ∙ e ∙ sym (length-kept used _ z n))
        (λ k m. at k (rw (c.full, e) at m) (used k) refl)
      where
        at : (k : ℕ) → k < n → (b : Bool) → used k ≡ b → get_or l k d ≡ get_or (kept used (λ (k : ℕ). get_or start k d) z n) k d
        at k m true u = c.stays k u ∙ sym (kept-used used _ z n k d m u)
        at k m false u = c.cleared k (omega arith) (omega arith) u ∙ sym (kept-unused used _ z n k d m u)

-- the entries below a count are in use
abbrev pub below : (count : ℕ) → ℕ → Bool
below count i = ltb i count

pub below-used : (count k : ℕ) → k < count → below count k ≡ true
below-used count k h = lt-ltb k count h
