-- Request 4 holds of the stored tables. Assumes nothing.
use Rattle.std.specs.Prelude.{◌≡◌, refl, List, [], ◌∷◌, ℕ, zero, suc, ◌+◌, ◌*◌, ◌/◌, ◌%◌, ◌^◌, ◌<◌, drop, length, get_or}
use Rattle.std.proofs.Common.{sym, ap, ◌∙◌, pow-suc, arith, length-drop, length-take-le, get_or-take, get_or-drop}
use Rattle.std.specs.Int.Bits.{bit_xor, xor_zero_r}
use Rattle.std.proofs.Math.Pow.{pow-lt}
use Rattle.xorshift.specs.Xorshift.{step_of, step_times}
use Rattle.xorshift.specs.Laws.{times-add, times_below}
use Rattle.jump.specs.Table.{table}
use Rattle.jump.specs.Apply.{taken, apply}
use Rattle.jump.specs.Jump.{row, table_at, Request4}
use Rattle.jump.proofs.Linear.{apply-linear, step-linear}
use Rattle.jump.proofs.Inverse.{step-injective}
use Rattle.jump.proofs.Carried.{table-carries}

pub table-length : length table ≡ 4096
unfolding table
table-length = refl

pub row-length : (k : ℕ) → k < 64 → length (table_at k) ≡ 64
row-length k h = length-take-le 64 (drop (64 * k) table) (rw length-drop (omega (arith, table-length)))

-- a table applied to 2 ^ i is its word i
word_at : (ws : List ℕ) (i : ℕ) → i < length ws → apply ws (2 ^ i) ≡ get_or ws i 0
word_at [] i h = absurd (omega arith)
word_at (w ∷ ws) zero h = ap (bit_xor w) (apply-linear ws).1 ∙ xor_zero_r w
word_at (w ∷ ws) (suc i) h =
    ap (λ (n : ℕ). taken (n % 2) w (apply ws (n / 2))) (pow-suc 2 i) ∙ ap (λ (b : ℕ). taken b w (apply ws (2 ^ i * 2 / 2))) (even (2 ^ i))
    ∙ ap (apply ws) (halved (2 ^ i)) ∙ word_at ws i (omega arith)
  where
    even : (p : ℕ) → p * 2 % 2 ≡ 0
    even p = omega arith

    halved : (p : ℕ) → p * 2 / 2 ≡ p
    halved p = omega arith

-- word i of table k stands at 64 * k + i
pub row_word : (t : List ℕ) (k i : ℕ) → i < 64 → get_or (row k t) i 0 ≡ get_or t (64 * k + i) 0
row_word t k i h = get_or-take 64 (drop (64 * k) t) i 0 h ∙ get_or-drop (64 * k) t i 0

table-words : (k i : ℕ) → k < 64 → i < 64 → get_or table (64 * k + i) 0 ≡ step_times (2 ^ k) (2 ^ i)
table-words k i h l = sym (word_at (table_at k) i (omega (arith, row-length k h)) ∙ row_word table k i l) ∙ table-carries k h (2 ^ i) (pow-lt l)

table-rule : (k x : ℕ) → suc k < 64 → x < 2 ^ 64 → apply (table_at (suc k)) x ≡ apply (table_at k) (apply (table_at k) x)
table-rule k x h l =
    let p = 2 ^ k in
    let carried : apply (table_at k) x ≡ step_times p x = table-carries k (omega arith) x l in
    table-carries (suc k) h x l ∙ ap (λ (n : ℕ). step_times n x) (pow-suc 2 k ∙ twice p) ∙ times-add p p x
    ∙ sym (ap (apply (table_at k)) carried ∙ table-carries k (omega arith) (step_times p x) (times_below p l))
  where
    twice : (p : ℕ) → p * 2 ≡ p + p
    twice p = omega arith

-- ---- draws lose nothing
agreed : (n x y : ℕ) → x < 2 ^ 64 → y < 2 ^ 64 → step_times n x ≡ step_times n y → x ≡ y
unfolding step_times
agreed zero x y h l e = e
agreed (suc n) x y h l e = agreed n x y h l (step-injective (step_times n x) (step_times n y) (times_below n h) (times_below n l) e)

zero-stays : (n : ℕ) → step_times n 0 ≡ 0
unfolding step_times
zero-stays zero = refl
zero-stays (suc n) = ap step_of (zero-stays n) ∙ step-linear.1

pub request4 : Request4
request4 = record {
  tables = table-length;
  carries = λ k x h l. table-carries k h x l;
  words = table-words;
  rule = table-rule;
  agree = λ n x y h l. (agreed n x y h l, ap (step_times n));
  never_zero = λ n x h nonzero e. nonzero (agreed n x 0 h (omega arith) (e ∙ sym (zero-stays n)));
}
