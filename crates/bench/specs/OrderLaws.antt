-- The order is what request 10 says: each place once, and each before the next. Assumes nothing.
use Rattle.std.specs.Prelude.{◌≡◌, refl, Bool, true, false, not, cond, ℕ, suc, ◌<◌, ◌≤◌, T, ltb}
use Rattle.std.proofs.Common.{sym, subst, arith, ltb→lt, nltb→le}
use mathlib.Core.List.Permᴰ
use mathlib.Core.List.{List, [], ◌∷◌, ◌++◌, Permᴰ}
use Rattle.bench.specs.Order.{Before, fewer, equal, Rising, inserted, ordered_behind, ordered}
use Rattle.bench.specs.Book.{chosen, places_where}

-- p is above all of these
abbrev pub Above : ℕ → List ℕ → Type 0
Above p [] = Unit
Above p (q ∷ qs) = (q < p) × Above p qs

pub above-next : (k : ℕ) (l : List ℕ) → Above k l → Above (suc k) l
above-next k [] a = tt
above-next k (q ∷ qs) a = (below a.0, above-next k qs a.1)
  where
    below : q < k → q < suc k
    below h = omega arith

module _ (turns : ℕ → ℕ) where
  -- ---- each once, and no other
  inserted-perm : (p : ℕ) (l : List ℕ) → Permᴰ (inserted turns p l) (p ∷ l)
  inserted-perm p [] = Permᴰ.refl (p ∷ [])
  inserted-perm p (q ∷ qs) = go (ltb (turns p) (turns q)) (inserted-perm p qs)
    where
      go : (b : Bool) → Permᴰ (inserted turns p qs) (p ∷ qs) → Permᴰ (cond b (p ∷ q ∷ qs) (q ∷ inserted turns p qs)) (p ∷ q ∷ qs)
      go true more = Permᴰ.refl (p ∷ q ∷ qs)
      go false more = Permᴰ.trans (Permᴰ.cons refl more) (Permᴰ.swap refl refl)

  behind-perm : (done places : List ℕ) → Permᴰ (ordered_behind turns done places) (done ++ places)
  behind-perm done [] = Permᴰ.symm (Permᴰ.append-nil done)
  behind-perm done (p ∷ ps) =
      Permᴰ.trans (behind-perm (inserted turns p done) ps)
      (Permᴰ.trans (Permᴰ.append_right ps (inserted-perm p done)) (Permᴰ.symm (Permᴰ.middle p done ps)))

  pub ordered-perm : (places : List ℕ) → Permᴰ (ordered turns places) places
  ordered-perm places = behind-perm [] places

  -- ---- each before the next
  behind : (p q : ℕ) → q < p → turns q ≤ turns p → Before turns q p
  behind p q h g = go (ltb (turns q) (turns p)) (ltb→lt (turns q) (turns p)) (nltb→le (turns q) (turns p))
    where
      same : (a b : ℕ) → a ≤ b → b ≤ a → a ≡ b
      same a b x y = omega arith

      go : (b : Bool) → (T b → turns q < turns p) → (T (not b) → turns p ≤ turns q) → Before turns q p
      go true s t = fewer (s tt)
      go false s t = equal (same (turns q) (turns p) g (t tt)) h

  rising-inserted : (p : ℕ) (l : List ℕ) → Above p l → Rising turns l → Rising turns (inserted turns p l)
  rising-inserted p [] a r = tt
  rising-inserted p (q ∷ []) a r = go (ltb (turns p) (turns q)) (ltb→lt (turns p) (turns q)) (nltb→le (turns p) (turns q))
    where
      go : (b : Bool) → (T b → turns p < turns q) → (T (not b) → turns q ≤ turns p) → Rising turns (cond b (p ∷ q ∷ []) (q ∷ p ∷ []))
      go true s t = (fewer (s tt), tt)
      go false s t = (behind p q a.0 (t tt), tt)
  rising-inserted p (q ∷ q' ∷ qs) a r =
      go (ltb (turns p) (turns q)) (ltb→lt (turns p) (turns q)) (nltb→le (turns p) (turns q)) (rising-inserted p (q' ∷ qs) a.1 r.1)
    where
      after : (b : Bool) → Before turns q q' → Before turns q p →
          Rising turns (cond b (p ∷ q' ∷ qs) (q' ∷ inserted turns p qs)) → Rising turns (q ∷ cond b (p ∷ q' ∷ qs) (q' ∷ inserted turns p qs))
      after true x y z = (y, z)
      after false x y z = (x, z)

      go : (b : Bool) → (T b → turns p < turns q) → (T (not b) → turns q ≤ turns p) → Rising turns (inserted turns p (q' ∷ qs)) →
          Rising turns (cond b (p ∷ q ∷ q' ∷ qs) (q ∷ inserted turns p (q' ∷ qs)))
      go true s t more = (fewer (s tt), r)
      go false s t more = after (ltb (turns p) (turns q')) r.0 (behind p q a.0 (t tt)) more

  -- ---- the places that pass a test, taken in rising order
  -- k, k + 1, ..
  abbrev From : ℕ → List ℕ → Type 0
  From k [] = Unit
  From k (p ∷ ps) = (p ≡ k) × From (suc k) ps

  pub above-inserted : (k p : ℕ) (l : List ℕ) → p < k → Above k l → Above k (inserted turns p l)
  above-inserted k p [] h a = (h, tt)
  above-inserted k p (q ∷ qs) h a = go (ltb (turns p) (turns q)) (above-inserted k p qs h a.1)
    where
      go : (b : Bool) → Above k (inserted turns p qs) → Above k (cond b (p ∷ q ∷ qs) (q ∷ inserted turns p qs))
      go true more = (h, a)
      go false more = (a.0, more)

  rising-behind : (test : ℕ → Bool) (k : ℕ) (places done : List ℕ) → From k places → Above k done → Rising turns done →
      Rising turns (ordered_behind turns done (chosen test places))
  rising-behind test k [] done f a r = r
  rising-behind test k (p ∷ ps) done f a r = go (test p) (λ l. rising-behind test (suc k) ps l f.1)
    where
      above : Above p done
      above = subst (λ (n : ℕ). Above n done) (sym f.0) a

      next : (p : ℕ) → p ≡ k → p < suc k
      next p e = omega arith

      go : (b : Bool) → ((l : List ℕ) → Above (suc k) l → Rising turns l → Rising turns (ordered_behind turns l (chosen test ps))) →
          Rising turns (ordered_behind turns done (cond b (p ∷ chosen test ps) (chosen test ps)))
      go true more = more (inserted turns p done) (above-inserted (suc k) p done (next p f.0) (above-next k done a)) (rising-inserted p done above r)
      go false more = more done (above-next k done a) r

  pub rising-ordered : (test : ℕ → Bool) → Rising turns (ordered turns (places_where test))
  rising-ordered test = rising-behind test 0 (0 ∷ 1 ∷ 2 ∷ 3 ∷ []) [] (refl, (refl, (refl, (refl, tt)))) tt tt
