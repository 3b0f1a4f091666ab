-- The listing, place by place: those found among the first k in their order, and zeros. Assumes nothing.
use Rattle.std.specs.Prelude.{◌≡◌, refl, Bool, true, false, cond, List, [], ◌∷◌, ◌++◌, ℕ, zero, suc, ◌+◌, ◌-◌, ◌≤◌, ◌<◌, ltb, length, take}
use Rattle.std.proofs.Math.Path.{sym, ap}
use Rattle.std.proofs.Common.{◌∙◌, subst, append-nil, add-one, arith}
use Rattle.std.proofs.Math.ListN.{replicate}
use Rattle.bench.specs.declared.types.Bench.{Bench}
use Rattle.bench.specs.Book.{chosen}
use Rattle.bench.specs.Benches.{row_at}
use Rattle.bench.specs.Order.{inserted, ordered_behind, ordered}
use Rattle.bench.specs.OrderLaws.{Above, above-next, above-inserted}
use Rattle.bench.specs.Calls.{is_listed, finished_places, listing_of}
use Rattle.finished.specs.Inserted.{turns_of, turns_in, position_from, opened_at, filled, put_in, same-position}

-- ---- one place more, at the end
length_inserted : (turns : ℕ → ℕ) (p : ℕ) (l : List ℕ) → length (inserted turns p l) ≡ suc (length l)
length_inserted turns p [] = refl
length_inserted turns p (q ∷ qs) = go (ltb (turns p) (turns q)) (length_inserted turns p qs)
  where
    go : (b : Bool) → length (inserted turns p qs) ≡ suc (length qs) → length (cond b (p ∷ q ∷ qs) (q ∷ inserted turns p qs)) ≡ suc (suc (length qs))
    go true e = refl
    go false e = ap suc e

behind-last : (turns : ℕ → ℕ) (done places : List ℕ) (p : ℕ)
    → ordered_behind turns done (places ++ (p ∷ [])) ≡ inserted turns p (ordered_behind turns done places)
behind-last turns done [] p = refl
behind-last turns done (q ∷ qs) p = behind-last turns (inserted turns q done) qs p

-- ---- all are below four
above-up : (k : ℕ) (l : List ℕ) → k ≤ 4 → Above k l → Above 4 l
above-up k [] u a = tt
above-up k (q ∷ qs) u a = (wider a.0, above-up k qs u a.1)
  where
    wider : q < k → q < 4
    wider h = omega (arith, u)

above-zeros : (n : ℕ) (l : List ℕ) → Above 4 l → Above 4 (l ++ replicate n 0)
above-zeros zero [] a = tt
above-zeros (suc n) [] a = (omega arith, above-zeros n [] tt)
above-zeros n (q ∷ qs) a = (a.0, above-zeros n qs a.1)

module _ (b : Bench) where
  abbrev test : ℕ → Bool
  test place = is_listed (row_at b place)

  abbrev turns : ℕ → ℕ
  turns place = (row_at b place).turns

  -- those among the first k places
  abbrev found : ℕ → List ℕ
  found k = ordered turns (chosen test (take k (0 ∷ 1 ∷ 2 ∷ 3 ∷ [])))

  pub record Gathered (k : ℕ) (places : List ℕ) (count : ℕ) : Type 0 where
    pub filled : places ≡ found k ++ replicate (4 - count) 0
    pub counted : length (found k) ≡ count
    pub few : count ≤ k
    pub below : Above k (found k)

  pub gathered_none : Gathered 0 (replicate 4 0) 0
  gathered_none = record { filled = refl; counted = refl; few = omega arith; below = tt }

  chosen-append : (xs ys : List ℕ) → chosen test (xs ++ ys) ≡ chosen test xs ++ chosen test ys
  chosen-append [] ys = refl
  chosen-append (x ∷ xs) ys = ap (λ (l : List ℕ). cond (test x) (x ∷ l) l) (chosen-append xs ys) ∙ either (test x)
    where
      either : (b : Bool)
          → cond b (x ∷ (chosen test xs ++ chosen test ys)) (chosen test xs ++ chosen test ys) ≡ cond b (x ∷ chosen test xs) (chosen test xs) ++ chosen test ys
      either true = refl
      either false = refl

  next : (k : ℕ) → k < 4 → take (suc k) (0 ∷ 1 ∷ 2 ∷ 3 ∷ []) ≡ take k (0 ∷ 1 ∷ 2 ∷ 3 ∷ []) ++ (k ∷ [])
  next zero h = refl
  next (suc zero) h = refl
  next (suc (suc zero)) h = refl
  next (suc (suc (suc zero))) h = refl
  next (suc (suc (suc (suc k)))) h = absurd (past k h)
    where
      past : (k : ℕ) → suc (suc (suc (suc k))) < 4 → ⊥
      past k h = omega arith

  chosen-next : (k : ℕ) → k < 4 → chosen test (take (suc k) (0 ∷ 1 ∷ 2 ∷ 3 ∷ [])) ≡ chosen test (take k (0 ∷ 1 ∷ 2 ∷ 3 ∷ [])) ++ cond (test k) (k ∷ []) []
  chosen-next k h = ap (chosen test) (next k h) ∙ chosen-append (take k (0 ∷ 1 ∷ 2 ∷ 3 ∷ [])) (k ∷ [])

  module _ (k : ℕ) (h : k < 4) where
    abbrev before : List ℕ
    before = chosen test (take k (0 ∷ 1 ∷ 2 ∷ 3 ∷ []))

    same : test k ≡ false → found (suc k) ≡ found k
    same t = ap (ordered turns) (chosen-next k h ∙ ap (λ (b : Bool). before ++ cond b (k ∷ []) []) t ∙ append-nil before)

    longer : test k ≡ true → found (suc k) ≡ inserted turns k (found k)
    longer t = ap (ordered turns) (chosen-next k h ∙ ap (λ (b : Bool). before ++ cond b (k ∷ []) []) t) ∙ behind-last turns [] before k

  less : (k : ℕ) (places : List ℕ) (count : ℕ) → k < 4 → test k ≡ false → Gathered k places count → Gathered (k + 1) places count
  less k places count h t g = rw (add-one k) record {
    filled = g.filled ∙ ap (λ (l : List ℕ). l ++ replicate (4 - count) 0) (sym (same k h t));
    counted = ap length (same k h t) ∙ g.counted;
    few = omega (arith, g.few);
    below = subst (Above (suc k)) (sym (same k h t)) (above-next k (found k) g.below);
  }

  -- where the place goes, by the turns of the four
  abbrev pub put : (place : ℕ) (places : List ℕ) (count : ℕ) → List ℕ
  put place places count = opened_at (position_from (turns_in (turns_of b)) place places 0 count) place places

  more : (k : ℕ) (places : List ℕ) (count : ℕ) → k < 4 → test k ≡ true → Gathered k places count → Gathered (k + 1) (put k places count) (count + 1)
  more k places count h t g = rw (add-one k, add-one count) record {
    filled = whole ∙ ap (λ (l : List ℕ). l ++ replicate (4 - suc count) 0) (sym (longer k h t));
    counted = ap length (longer k h t) ∙ length_inserted turns k (found k) ∙ ap suc g.counted;
    few = omega (arith, g.few);
    below = subst (Above (suc k)) (sym (longer k h t)) (above-inserted turns (suc k) k (found k) (omega arith) (above-next k (found k) g.below));
  }
    where
      short : length (found k) ≤ 3
      short = subst (λ (n : ℕ). n ≤ 3) (sym g.counted) (omega (arith, g.few))

      full : places ≡ filled turns k (found k)
      full = g.filled ∙ ap (λ (n : ℕ). found k ++ replicate (4 - n) 0) (sym g.counted)

      within : Above 4 (filled turns k (found k))
      within = above-zeros (4 - length (found k)) (found k) (above-up k (found k) (omega arith) g.below)

      -- by the rows' turns, and by those of the four
      there : position_from (turns_in (turns_of b)) k places 0 count ≡ position_from turns k (filled turns k (found k)) 0 (length (found k))
      there =
          (λ i. position_from (turns_in (turns_of b)) k (full i) 0 (sym g.counted i))
          ∙ same-position b k h (filled turns k (found k)) within 0 (length (found k))

      whole : put k places count ≡ inserted turns k (found k) ++ replicate (4 - suc count) 0
      whole =
          (λ i. opened_at (there i) k (full i))
          ∙ put_in turns k (found k) short
          ∙ ap (λ (n : ℕ). inserted turns k (found k) ++ replicate (4 - suc n) 0) g.counted

  -- the same, of what a step leaves
  module _ {k : ℕ} {places places' : List ℕ} {count count' : ℕ} (h : k < 4) (g : Gathered k places count) where
    to : {ps : List ℕ} {n : ℕ} → places' ≡ ps → count' ≡ n → Gathered (k + 1) ps n → Gathered (k + 1) places' count'
    to {ps} {n} e e' g' = subst (λ (l : List ℕ). Gathered (k + 1) l count') (sym e) (subst (Gathered (k + 1) ps) (sym e') g')

    pub gathered-less : test k ≡ false → places' ≡ places → count' ≡ count → Gathered (k + 1) places' count'
    gathered-less t e e' = to e e' (less k places count h t g)

    pub gathered-more : test k ≡ true → places' ≡ put k places count → count' ≡ count + 1 → Gathered (k + 1) places' count'
    gathered-more t e e' = to e e' (more k places count h t g)

  -- all four: the bench's listing
  pub gathered-all : (places : List ℕ) (count : ℕ) → Gathered 4 places count → record { places = places; count = count } ≡ listing_of b
  unfolding finished_places
  gathered-all places count g =
      λ i. record { places = (g.filled ∙ ap (λ (n : ℕ). finished_places b ++ replicate (4 - n) 0) (sym g.counted)) i; count = sym g.counted i }
