-- A list made by a rule, and loops that fill one from the front. Assumes nothing.
use Rattle.std.specs.Prelude.{◌≡◌, length, set, drop, replicate}
use Rattle.std.proofs.Math.Path.{refl, sym, ap}
use Rattle.std.proofs.Common.{◌∙◌, eq-or-lt_of_le, le_of_suc-le-suc, add-one, length-append, drop-cons, ext_get_or}
use mathlib.Core.List.{List, [], ◌∷◌, ◌++◌, append_assoc, append-nil}
use Rattle.std.proofs.Math.Logic.{inl, inr}
use Prim.Native.Nat.{ℕ, zero, suc, ◌+◌, ◌-◌, ◌≤◌, ◌<◌}
use native.Mathlib.Omega.{arith}
use Rattle.std.proofs.Math.ListN.{get_or, get_or-append}
use Rattle.std.proofs.Math.Seq.{drop-length, get_or_at}
use Rattle.std.proofs.lemmas.List.{set_at}

module _ {A : Type 0} where
  -- f(0) .. f(n-1)
  unfoldable pub tab : (ℕ → A) → ℕ → List A
  tab f zero = []
  tab f (suc n) = tab f n ++ (f n ∷ [])

  pub length-tab : (f : ℕ → A) (n : ℕ) → length (tab f n) ≡ n
  unfolding tab
  length-tab f zero = refl
  length-tab f (suc n) = rw (length-append, length-tab f n, add-one)

  pub get_or-tab : (f : ℕ → A) (n i : ℕ) (d : A) → i < n → get_or (tab f n) i d ≡ f i
  unfolding tab
  get_or-tab f zero i d h = absurd (no i h)
    where
      no : (i : ℕ) → i < 0 → ⊥
      no i h = omega arith
  get_or-tab f (suc n) i d h = elim (eq-or-lt_of_le (le_of_suc-le-suc h)) [
    | inl e ↦ ap (λ (k : ℕ). get_or (tab f n ++ (f n ∷ [])) k d) e ∙ get_or_at (tab f n) (f n) [] d n (length-tab f n) ∙ sym (ap f e)
    | inr l ↦ get_or-append (tab f n) (f n ∷ []) d i (rw (length-tab f n) l) ∙ get_or-tab f n i d l
  ]

  -- two rules that agree below n make the same list
  pub tab-same : (f g : ℕ → A) (n : ℕ) → ((i : ℕ) → i < n → f i ≡ g i) → tab f n ≡ tab g n
  unfolding tab
  tab-same f g zero h = refl
  tab-same f g (suc n) h = λ i. tab-same f g n (λ k l. h k (further k n l)) i ++ (h n (last n) i ∷ [])
    where
      further : (k n : ℕ) → k < n → k < suc n
      further k n l = omega arith

      last : (n : ℕ) → n < suc n
      last n = omega arith

  -- a list is the one made by its own entries
  pub tab-self : (l : List A) (d : A) → tab (λ (i : ℕ). get_or l i d) (length l) ≡ l
  tab-self l d =
      ext_get_or d (tab (λ (i : ℕ). get_or l i d) (length l)) l (length-tab _ (length l))
      (λ i h. get_or-tab (λ (i : ℕ). get_or l i d) (length l) i d (rw (length-tab (λ (i : ℕ). get_or l i d) (length l)) at h))

  -- p stands for the first i of l; a store of v at i makes p longer by one
  grow : (p l : List A) (i : ℕ) (v d : A) → length p ≡ i → i < length l → set (p ++ drop i l) i v ≡ (p ++ (v ∷ [])) ++ drop (i + 1) l
  grow p l i v d e h = rw (add-one, drop-cons l i d, set_at p (get_or l i d) (drop (suc i) l) v i e, append_assoc)

  -- a turn of a loop that fills a list by a rule
  pub tab-step : (f : ℕ → A) (l p : List A) (i : ℕ) (v d : A) → p ≡ tab f i ++ drop i l → v ≡ f i → i < length l → set p i v ≡ tab f (i + 1) ++ drop (i + 1) l
  unfolding tab
  tab-step f l p i v d e ev h = rw (e, ev) (grow (tab f i) l i (f i) d (length-tab f i) h ∙ rw add-one)

  -- what is left of n equal entries
  pub drop-replicate : (a : A) (n m : ℕ) → drop n (replicate m a) ≡ replicate (m - n) a
  drop-replicate a zero m = ap (λ (k : ℕ). replicate k a) (all m)
    where
      all : (m : ℕ) → m ≡ m - 0
      all m = omega arith
  drop-replicate a (suc n) zero = ap (λ (k : ℕ). replicate k a) (none n)
    where
      none : (n : ℕ) → 0 ≡ 0 - suc n
      none n = omega arith
  drop-replicate a (suc n) (suc m) = drop-replicate a n m ∙ ap (λ (k : ℕ). replicate k a) (less n m)
    where
      less : (n m : ℕ) → m - n ≡ suc m - suc n
      less n m = omega arith

  -- the end of such a loop
  pub tab-full : (f : ℕ → A) (l p : List A) (i n : ℕ) → p ≡ tab f i ++ drop i l → length l ≡ n → i ≤ n → n ≤ i → p ≡ tab f n
  tab-full f l p i n e m a b =
      let q : i ≡ length l = omega arith in
      e ∙ rw (q, drop-length, append-nil) (ap (tab f) m)
