-- A turn of the loop over a table's words, and one of the loop over the tables. Assumes nothing.
use mathlib.Core.Path.{◌≡◌, sym, ap, ◌∙◌, subst}
use mathlib.Core.List.{List}
use Prim.Native.Nat.{ℕ, zero, suc, ◌+◌, ◌*◌, ◌-◌, ◌/◌, ◌%◌, ◌^◌, ◌≤◌, ◌<◌}
use native.Mathlib.Nat.{pow-suc, mul-zero, mul-one, add_comm, mul_comm, mul_left_comm, add-mul}
use native.Mathlib.Numerals.{add-one}
use native.Mathlib.Omega.{arith}
use lib.Bits.{bit_xor, xor_zero_r}
use lib.ListN.{length, get_or, drop, length-drop, drop_of_length-le}
use lib.Seq.{drop-cons, length-take-le}
use Rattle.xorshift.specs.Xorshift.{step_times}
use Rattle.xorshift.specs.Laws.{times-add, times_below}
use Rattle.jump.specs.Apply.{taken, apply}
use Rattle.jump.specs.Jump.{row, table_at}
use Rattle.jump.proofs.JumpLaws.{row_word}
use Rattle.jump.proofs.Linear.{xor_assoc}
use Rattle.jump.proofs.Carried.{table-carries}

-- a last bit that is not 1
pub last-clear : (n : ℕ) → (n % 2 ≡ 1 → ⊥) → n % 2 ≡ 0
last-clear n h = omega arith

-- a word times a bit is the word where the bit is set, and else 0
taken-times : (b w r : ℕ) → b < 2 → taken b w r ≡ bit_xor (w * b) r
taken-times zero w r h = sym (ap (λ (z : ℕ). bit_xor z r) (mul-zero w))
taken-times (suc zero) w r h = sym (ap (λ (z : ℕ). bit_xor z r) (mul-one w))
taken-times (suc (suc b)) w r h = absurd (omega arith)

pub times-fits : (w b : ℕ) → w < 2 ^ 64 → b < 2 → w * b < 2 ^ 64
times-fits w zero h l = rw mul-zero (omega arith)
times-fits w (suc zero) h l = rw mul-one h
times-fits w (suc (suc b)) h l = absurd (omega arith)

module _ (t : List ℕ) (k : ℕ) (inside : 64 * k + 64 ≤ length t) where
  long : length (row k t) ≡ 64
  long = length-take-le 64 (drop (64 * k) t) (rw length-drop (omega arith))

  -- what is summed so far, with what is left of the words at what is left of the bits
  abbrev pub Summed : (state sum bits i : ℕ) → Type 0
  Summed state sum bits i = bit_xor sum (apply (drop i (row k t)) bits) ≡ apply (row k t) state

  next_word : (bits i : ℕ) → i < 64 → apply (drop i (row k t)) bits ≡ taken (bits % 2) (get_or t (64 * k + i) 0) (apply (drop (suc i) (row k t)) (bits / 2))
  next_word bits i h =
      ap (λ (l : List ℕ). apply l bits) (drop-cons (row k t) i 0 (omega (arith, long)))
      ∙ ap (λ (w : ℕ). taken (bits % 2) w (apply (drop (suc i) (row k t)) (bits / 2))) (row_word t k i h)

  pub next_bit : (state sum bits i : ℕ) → i < 64 → Summed state sum bits i
      → Summed state (bit_xor sum (get_or t (64 * k + i) 0 * (bits % 2))) (bits / 2) (i + 1)
  next_bit state sum bits i h e =
      let w = get_or t (64 * k + i) 0 in
      let rest = apply (drop (suc i) (row k t)) (bits / 2) in
      ap (λ (j : ℕ). bit_xor (bit_xor sum (w * (bits % 2))) (apply (drop j (row k t)) (bits / 2))) (add-one i) ∙ xor_assoc sum (w * (bits % 2)) rest
      ∙ sym (ap (bit_xor sum) (next_word bits i h ∙ taken-times (bits % 2) w rest (omega arith))) ∙ e

  pub summed : (state sum bits i : ℕ) → i ≡ 64 → Summed state sum bits i → sum ≡ apply (row k t) state
  summed state sum bits i h e =
      let none = drop_of_length-le (row k t) {i = i} (omega (arith, long)) in
      sym (ap (bit_xor sum) (ap (λ (l : List ℕ). apply l bits) none) ∙ xor_zero_r sum) ∙ e

-- ---- the tables at the set bits of n: from x as many draws are left as the other bits say
pub record Going (state n x left k : ℕ) : Type 0 where
  pub few : left < 2 ^ (64 - k)
  pub word : x < 2 ^ 64
  pub meets : step_times (left * 2 ^ k) x ≡ step_times n state

pub begun : (state n : ℕ) → state < 2 ^ 64 → n < 2 ^ 64 → Going state n state n 0
begun state n h l = record { few = l; word = h; meets = ap (λ (m : ℕ). step_times m state) (once n) }
  where
    once : (n : ℕ) → n * 2 ^ 0 ≡ n
    once n = omega arith

half-left : (left k : ℕ) → k < 64 → left < 2 ^ (64 - k) → left / 2 < 2 ^ (64 - (k + 1))
half-left left k h l =
    let p = 2 ^ (64 - (k + 1)) in
    let e : 64 - k ≡ suc (64 - (k + 1)) = omega arith in
    halved left p (subst (λ (q : ℕ). left < q) (ap (λ (m : ℕ). 2 ^ m) e ∙ pow-suc 2 (64 - (k + 1))) l)
  where
    halved : (x p : ℕ) → x < p * 2 → x / 2 < p
    halved x p h = omega arith

-- the last bit's draws, then those of the others
apart : (left k : ℕ) → left % 2 * 2 ^ k + left / 2 * 2 ^ (k + 1) ≡ left * 2 ^ k
apart left k =
    ap (λ (q : ℕ). left % 2 * 2 ^ k + left / 2 * q) (ap (λ (m : ℕ). 2 ^ m) (add-one k) ∙ pow-suc 2 k)
    ∙ again (left / 2) (left % 2) (2 ^ k) ∙ ap (λ (m : ℕ). m * 2 ^ k) (put left)
  where
    again : (a b p : ℕ) → b * p + a * (p * 2) ≡ (a * 2 + b) * p
    again a b p = add_comm (b * p) (a * (p * 2)) ∙ ap (λ (m : ℕ). m + b * p) (mul_left_comm a p 2 ∙ mul_comm p (a * 2)) ∙ sym (add-mul (a * 2) b p)

    put : (a : ℕ) → a / 2 * 2 + a % 2 ≡ a
    put a = omega arith

turn : (state n x left k y : ℕ) → k < 64 → y ≡ step_times (left % 2 * 2 ^ k) x → Going state n x left k → Going state n y (left / 2) (k + 1)
turn state n x left k y h e g = record {
  few = half-left left k h g.few;
  word = subst (λ (z : ℕ). z < 2 ^ 64) (sym e) (times_below (left % 2 * 2 ^ k) g.word);
  meets =
      ap (step_times (left / 2 * 2 ^ (k + 1))) e ∙ sym (times-add (left % 2 * 2 ^ k) (left / 2 * 2 ^ (k + 1)) x)
      ∙ ap (λ (m : ℕ). step_times m x) (apart left k) ∙ g.meets;
}

pub jumps : (state n x left k : ℕ) → k < 64 → left % 2 ≡ 1 → Going state n x left k → Going state n (apply (table_at k) x) (left / 2) (k + 1)
jumps state n x left k h b g =
    let draws = ap (λ (m : ℕ). step_times m x) (sym (ap (λ (d : ℕ). d * 2 ^ k) b ∙ once (2 ^ k))) in
    turn state n x left k (apply (table_at k) x) h (table-carries k h x g.word ∙ draws) g
  where
    once : (p : ℕ) → 1 * p ≡ p
    once p = omega arith

pub stands : (state n x left k : ℕ) → k < 64 → left % 2 ≡ 0 → Going state n x left k → Going state n x (left / 2) (k + 1)
unfolding step_times
stands state n x left k h b g = turn state n x left k x h (ap (λ (m : ℕ). step_times m x) (sym (ap (λ (d : ℕ). d * 2 ^ k) b ∙ none (2 ^ k)))) g
  where
    none : (p : ℕ) → 0 * p ≡ 0
    none p = omega arith

pub arrived : (state n x left k : ℕ) → k ≡ 64 → Going state n x left k → x ≡ step_times n state
unfolding step_times
arrived state n x left k h g =
    let no_bits : 64 - k ≡ 0 = omega arith in
    let nothing : left ≡ 0 = below left (subst (λ (m : ℕ). left < 2 ^ m) no_bits g.few) in
    sym (ap (λ (m : ℕ). step_times m x) (ap (λ (l : ℕ). l * 2 ^ k) nothing ∙ none (2 ^ k))) ∙ g.meets
  where
    none : (p : ℕ) → 0 * p ≡ 0
    none p = omega arith

    below : (l : ℕ) → l < 2 ^ 0 → l ≡ 0
    below l h = omega arith
