-- Out of the one test over the whole table: table k carries a state over 2 ^ k draws. Assumes nothing.
use Rattle.std.specs.Prelude.{◌≡◌, refl, Bool, true, false, List, [], ◌∷◌, ℕ, zero, suc, ◌+◌, ◌*◌, ◌^◌, ◌/◌, ◌%◌, ◌<◌, ◌≤◌, T, eqb, ltb, take, drop, length}
use Rattle.std.proofs.Common.{sym, ap, ap₂, ◌∙◌, subst, pow-suc, arith, eqb→eq, ltb→lt, drop-drop}
use Rattle.std.proofs.lemmas.Nat.{xor_lt}
use Rattle.xorshift.specs.Xorshift.{step_of, step_times}
use Rattle.xorshift.specs.Laws.{times-add}
use Rattle.jump.specs.Table.{table}
use Rattle.jump.specs.Apply.{apply, taken}
use Rattle.jump.specs.Jump.{row, table_at}
use Rattle.jump.specs.Lanes.{both, parity, total, widened, images, doubled}
use Rattle.jump.proofs.LaneLaws.{Words, applied}
use Rattle.jump.proofs.Computed.{rule}
use Rattle.jump.proofs.Linear.{each, doubled-twice, step-linear, is-applied}
use Rattle.jump.proofs.Inverse.{first-table}

both_l : (a b : Bool) → T (both a b) → T a
both_l true b t = tt
both_l false b t = t

both_r : (a b : Bool) → T (both a b) → T b
both_r true b t = t
both_r false b t = absurd t

-- ---- one table and the next
-- the next words are the row applied to the first, where as many are there
image-list : (row xs ys : List ℕ) → length row < 128 → Words row → length xs ≡ length ys → T (images (widened row) xs ys) → ys ≡ each (apply row) xs
image-list row [] [] h v e t = refl
image-list row [] (y ∷ ys) h v e t = absurd (none (length ys) e)
  where
    none : (n : ℕ) → 0 ≡ suc n → ⊥
    none n e = omega arith
image-list row (x ∷ xs) [] h v e t = absurd t
image-list row (x ∷ xs) (y ∷ ys) h v e t =
    let here = eqb (parity 64 (total (widened row) x)) y in
    let more = images (widened row) xs ys in
    ap₂ ◌∷◌
    (sym (sym (applied row x h v) ∙ eqb→eq (parity 64 (total (widened row) x)) y (both_l here more t)))
    (image-list row xs ys h v (fewer (length xs) (length ys) e) (both_r here more t))
  where
    fewer : (m n : ℕ) → suc m ≡ suc n → m ≡ n
    fewer m n e = omega arith

taken-lt : (b w r : ℕ) → w < 2 ^ 64 → r < 2 ^ 64 → taken b w r < 2 ^ 64
taken-lt zero w r h k = k
taken-lt (suc b) w r h k = xor_lt 64 w r h k

apply-lt : (ws : List ℕ) (x : ℕ) → Words ws → apply ws x < 2 ^ 64
apply-lt [] x v = omega arith
apply-lt (w ∷ ws) x v = taken-lt (x % 2) w (apply ws (x / 2)) v.0 (apply-lt ws (x / 2) v.1)

abbrev Carries : ℕ → List ℕ → Type 0
Carries k ws = (x : ℕ) → x < 2 ^ 64 → apply ws x ≡ step_times (2 ^ k) x

-- a row that carries over 2 ^ k draws, applied to its own words, carries over 2 ^ (k + 1)
next_row : (k : ℕ) (ws next : List ℕ) → length ws < 128 → Words ws → length ws ≡ length next → T (images (widened ws) ws next) →
    Carries k ws → Carries (suc k) next
next_row k ws next h v e t r x b =
    ap (λ (row : List ℕ). apply row x) (image-list ws ws next h v e t) ∙ doubled-twice ws x ∙ r (apply ws x) (apply-lt ws x v) ∙ ap (step_times (2 ^ k)) (r x b)
    ∙ sym (times-add (2 ^ k) (2 ^ k) x) ∙ ap (λ (n : ℕ). step_times n x) (sym (pow-suc 2 k ∙ twice (2 ^ k)))
  where
    twice : (p : ℕ) → p * 2 ≡ p + p
    twice p = omega arith

-- ---- the stored words are words, 64 in a table
abbrev all_words : List ℕ → Bool
all_words [] = true
all_words (w ∷ ws) = both (ltb w 18446744073709551616) (all_words ws)

abbrev full : List ℕ → Bool
full ws = both (eqb (length ws) 64) (all_words ws)

-- n tables and one more
abbrev whole : ℕ → List ℕ → Bool
whole zero t = full (take 64 t)
whole (suc n) t = both (full (take 64 t)) (whole n (drop 64 t))

table-whole : T (whole 63 table)
unfolding table
table-whole = tt

words_of : (ws : List ℕ) → T (all_words ws) → Words ws
words_of [] t = tt
words_of (w ∷ ws) t =
    let small = ltb w 18446744073709551616 in
    (ltb→lt w 18446744073709551616 (both_l small (all_words ws) t), words_of ws (both_r small (all_words ws) t))

full-long : (ws : List ℕ) → T (full ws) → length ws ≡ 64
full-long ws t = eqb→eq (length ws) 64 (both_l (eqb (length ws) 64) (all_words ws) t)

full-words : (ws : List ℕ) → T (full ws) → Words ws
full-words ws t = words_of ws (both_r (eqb (length ws) 64) (all_words ws) t)

first-full : (n : ℕ) (t : List ℕ) → T (whole n t) → T (full (take 64 t))
first-full zero t w = w
first-full (suc n) t w = both_l (full (take 64 t)) (whole n (drop 64 t)) w

rest-whole : (n : ℕ) (t : List ℕ) → T (whole (suc n) t) → T (whole n (drop 64 t))
rest-whole n t w = both_r (full (take 64 t)) (whole n (drop 64 t)) w

-- ---- every table
row_next : (k : ℕ) (t : List ℕ) → row k (drop 64 t) ≡ row (suc k) t
row_next k t = ap (take 64) (drop-drop (64 * k) 64 t ∙ ap (λ (n : ℕ). drop n t) (next k))
  where
    next : (k : ℕ) → 64 + 64 * k ≡ 64 * suc k
    next k = omega arith

-- row k of a list that keeps the rule and begins with one that carries over 2 ^ j
carries : (n j k : ℕ) (t : List ℕ) → k ≤ n → T (doubled n t) → T (whole n t) → Carries j (take 64 t) → Carries (j + k) (row k t)
carries n j zero t h d w c = subst (λ (i : ℕ). Carries i (take 64 t)) (none j) c
  where
    none : (j : ℕ) → j ≡ j + 0
    none j = omega arith
carries zero j (suc k) t h d w c = absurd (omega arith)
carries (suc n) j (suc k) t h d w c =
    let ws = take 64 t in
    let next = take 64 (drop 64 t) in
    let r = first-full (suc n) t w in
    let s = first-full n (drop 64 t) (rest-whole n t w) in
    let doubles = images (widened ws) ws next in
    let more-doubles = doubled n (drop 64 t) in
    let as_long = full-long ws r ∙ sym (full-long next s) in
    let c' = next_row j ws next (few (length ws) (full-long ws r)) (full-words ws r) as_long (both_l doubles more-doubles d) c in
    subst (λ (i : ℕ). Carries i (row (suc k) t)) (more j k)
    (subst (Carries (suc j + k)) (row_next k t) (carries n (suc j) k (drop 64 t) (omega arith) (both_r doubles more-doubles d) (rest-whole n t w) c'))
  where
    few : (n : ℕ) → n ≡ 64 → n < 128
    few n e = omega arith

    more : (j k : ℕ) → suc j + k ≡ j + suc k
    more j k = omega arith

first-carries : Carries 0 (take 64 table)
unfolding step_times
first-carries x h = ap (λ (ws : List ℕ). apply ws x) first-table ∙ is-applied 64 step_of step-linear x h

pub table-carries : (k : ℕ) → k < 64 → (x : ℕ) → x < 2 ^ 64 → apply (table_at k) x ≡ step_times (2 ^ k) x
table-carries k h = subst (λ (i : ℕ). Carries i (table_at k)) (none k) (carries 63 0 k table (omega arith) rule table-whole first-carries)
  where
    none : (k : ℕ) → 0 + k ≡ k
    none k = omega arith
