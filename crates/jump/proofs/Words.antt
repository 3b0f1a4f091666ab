-- The words from the step alone are the stored ones. Assumes nothing.
use mathlib.Core.Path.{◌≡◌, refl, sym, ap, ◌∙◌}
use mathlib.Core.Bool.{Bool, true, false}
use mathlib.Core.List.{List}
use mathlib.Core.Logic.{◌≢◌, ⊎_elim}
use Prim.Native.Nat.{ℕ, suc, ◌+◌, ◌*◌, ◌-◌, ◌/◌, ◌%◌, ◌^◌, ◌≤◌, ◌<◌}
use native.Mathlib.Nat.{pow-suc, zero-add, eq-or-lt_of_le}
use native.Mathlib.Omega.{arith}
use lib.Dec.{ltb}
use lib.Pow.{pow-lt, shl_exact}
use lib.ListN.{length, get_or, set, drop, length-drop, length-set}
use lib.Seq.{ext_get_or, length-take-le, get_or-set_same, get_or-set_other}
use borrow.Author.Tests.{ltb-true, ltb-false, lt-ltb, le-ltb}
use Rattle.xorshift.specs.Xorshift.{step_of, step_times}
use Rattle.xorshift.specs.Laws.{times-add, times_below}
use Rattle.jump.specs.Table.{table}
use Rattle.jump.specs.Apply.{apply}
use Rattle.jump.specs.Jump.{row, table_at}
use Rattle.jump.specs.Drawn.{word_if, word_from}
use Rattle.jump.proofs.JumpLaws.{table-length, row-length, row_word, request4}

-- 1 shifted by less than 64 loses nothing
pub one_bit : (k : ℕ) → k < 64 → 1 * 2 ^ k % 2 ^ 64 ≡ 2 ^ k
one_bit k h = shl_exact {a = 1} 1 k 64 (omega arith) (omega arith) ∙ once (2 ^ k)
  where
    once : (p : ℕ) → 1 * p ≡ p
    once p = omega arith

-- which word it is
pub is-first : (t : List ℕ) (at : ℕ) → at < 64 → word_from t at ≡ step_of (2 ^ at)
unfolding word_if
is-first t at h = ap (λ (b : Bool). word_if b t at) (lt-ltb at 64 h)

pub is_later : (t : List ℕ) (at : ℕ) → 64 ≤ at → word_from t at ≡ apply (row ((at - 64) / 64) t) (get_or t (at - 64) 0)
unfolding word_if
is_later t at h = ap (λ (b : Bool). word_if b t at) (le-ltb at 64 h)

-- the words before a place are the stored ones
pub record Right (t : List ℕ) (at : ℕ) : Type 0 where
  pub long : length t ≡ 4096
  pub before : (j : ℕ) → j < at → get_or t j 0 ≡ get_or table j 0

module _ (t : List ℕ) (at : ℕ) (inside : at < 4096) (right : Right t at) where
  same_row : (k : ℕ) → 64 * k + 64 ≤ at → row k t ≡ table_at k
  same_row k h =
      ext_get_or 0 (row k t) (table_at k) (long ∙ sym (row-length k (omega arith))) λ i l.
      let b : i < 64 = less i (length (row k t)) long l in
      row_word t k i b ∙ right.before (64 * k + i) (within i b) ∙ sym (row_word table k i b)
    where
      long : length (row k t) ≡ 64
      long = length-take-le 64 (drop (64 * k) t) (rw length-drop (omega (arith, right.long)))

      less : (i n : ℕ) → n ≡ 64 → i < n → i < 64
      less i n e l = omega arith

      within : (i : ℕ) → i < 64 → 64 * k + i < at
      within i l = omega arith

  first_word : at < 64 → step_of (2 ^ at) ≡ get_or table at 0
  unfolding step_times
  first_word h = sym (ap (λ (n : ℕ). get_or table n 0) (sym (zero-add at)) ∙ request4.words 0 at (omega arith) h)

  -- word i of table k + 1
  later-word : (k i : ℕ) → i < 64 → 64 * suc k + i ≡ at → apply (row k t) (get_or t (64 * k + i) 0) ≡ get_or table at 0
  later-word k i h e =
      let p = 2 ^ k in
      let small : suc k < 64 = omega arith in
      let here : k < 64 = omega arith in
      let w : get_or t (64 * k + i) 0 ≡ step_times p (2 ^ i) = right.before (64 * k + i) (omega arith) ∙ request4.words k i here h in
      ap (λ (ws : List ℕ). apply ws (get_or t (64 * k + i) 0)) (same_row k (omega arith)) ∙ ap (apply (table_at k)) w
      ∙ request4.carries k (step_times p (2 ^ i)) here (times_below p (pow-lt h))
      ∙ sym (ap (λ (n : ℕ). get_or table n 0) (sym e) ∙ request4.words (suc k) i small h
      ∙ ap (λ (n : ℕ). step_times n (2 ^ i)) (pow-suc 2 k ∙ twice p) ∙ times-add p p (2 ^ i))
    where
      twice : (p : ℕ) → p * 2 ≡ p + p
      twice p = omega arith

  pub word-right : word_from t at ≡ get_or table at 0
  word-right = go (ltb at 64) refl
    where
      later : 64 ≤ at → apply (row ((at - 64) / 64) t) (get_or t (at - 64) 0) ≡ get_or table at 0
      later h =
          let k = (at - 64) / 64 in
          let i = (at - 64) % 64 in
          let place : 64 * k + i ≡ at - 64 = omega arith in
          ap (λ (n : ℕ). apply (row k t) (get_or t n 0)) (sym place) ∙ later-word k i (omega arith) (omega arith)

      go : (b : Bool) → ltb at 64 ≡ b → word_from t at ≡ get_or table at 0
      go true e = is-first t at (ltb-true at 64 e) ∙ first_word (ltb-true at 64 e)
      go false e = is_later t at (ltb-false at 64 e) ∙ later (ltb-false at 64 e)

  pub grown : (w : ℕ) → w ≡ word_from t at → Right (set t at w) (at + 1)
  grown w e = record {
    long = length-set t at w ∙ right.long;
    before = λ j l. ⊎_elim
        (λ (here : j ≡ at). ap (λ (n : ℕ). get_or (set t at w) n 0) here ∙ placed ∙ ap (λ (n : ℕ). get_or table n 0) (sym here))
        (λ (earlier : j < at). get_or-set_other t at j w 0 (apart j earlier) ∙ right.before j earlier)
        (eq-or-lt_of_le (omega arith));
  }
    where
      placed : get_or (set t at w) at 0 ≡ get_or table at 0
      placed = get_or-set_same t at w 0 (omega (arith, right.long)) ∙ e ∙ word-right

      apart : (j : ℕ) → j < at → j ≢ at
      apart j l = omega arith

pub all_right : (t : List ℕ) (at : ℕ) → at ≡ 4096 → Right t at → t ≡ table
all_right t at e right = ext_get_or 0 t table (right.long ∙ sym table-length) λ j l. right.before j (less j (length t) right.long l)
  where
    less : (j n : ℕ) → n ≡ 4096 → j < n → j < at
    less j n long l = omega arith
