-- `text::numbers::digits_value` meets its contract. The loop's invariant: the digits from `b` on, after `total`, make the number that all of them make.
-- Assumes nothing.
use Rattle.std.proofs.Common.{◌≡◌, ℕ, ◌+◌, ◌*◌, ◌^◌, ◌≤◌, ◌<◌, List, Some, None, length, get_or, drop, sym, ◌∙◌, arith, add-one, drop-cons, drop_of_length-le}
use Rattle.std.proofs.Common.{le-ltb, lt-ltb}
use Rattle.text.specs.Numbers.{digit_of, digits_from}
use Rattle.text.proofs.numbers.digits_value.Goals as goal

-- one more digit, the next of the text

module _ (base total : ℕ) (text : List ℕ) (i : ℕ) (inside : i < length text) where
  abbrev d : ℕ
  d = digit_of (get_or text i 0)

  no_digit : base ≤ d → digits_from base total (drop i text) ≡ None
  unfolding digits_from
  no_digit h = rw (drop-cons text i 0) (simp (le-ltb d base h))

  too_large : d < base → 2 ^ 64 ≤ total * base + d → digits_from base total (drop i text) ≡ None
  unfolding digits_from
  too_large h k = rw (drop-cons text i 0) (simp (lt-ltb d base h, le-ltb (total * base + d) (2 ^ 64) k))

  goes_on : d < base → total * base + d < 2 ^ 64 → digits_from base total (drop i text) ≡ digits_from base (total * base + d) (drop (i + 1) text)
  unfolding digits_from
  goes_on h k = rw (drop-cons text i 0, add-one) (simp (lt-ltb d base h, lt-ltb (total * base + d) (2 ^ 64) k))

ends : (base total : ℕ) (text : List ℕ) (i : ℕ) → length text ≤ i → digits_from base total (drop i text) ≡ Some total
unfolding digits_from
ends base total text i h = rw drop_of_length-le

pub returns-in_err-d : goal.returns-in_err-d
returns-in_err-d c =
    let a = c.args in
    let l = c.loop-b in
    let none : 16 ≤ digit_of (get_or a.text.now l.b-index 0) = omega (arith, c.in_err-d.ensures) in
    c.from_residual.ensures ∙ sym (no_digit a.base l.total a.text.now l.b-index c.loop-b-test.true (omega (arith, none))) ∙ l.invariant

pub returns-then-d-base : goal.returns-then-d-base
returns-then-d-base c =
    let a = c.args in
    let l = c.loop-b in
    let d = c.in_ok-d.ensures in
    sym (no_digit a.base l.total a.text.now l.b-index c.loop-b-test.true (omega (arith, d.1, c.if-d-base.true))) ∙ l.invariant

pub returns-in_err-checked_mul : goal.returns-in_err-checked_mul
returns-in_err-checked_mul c =
    let a = c.args in
    let l = c.loop-b in
    let d = c.in_ok-d.ensures in
    let over : 2 ^ 64 ≤ l.total * a.base = omega (arith, c.in_err-checked_mul.ensures) in
    c.from_residual-in_err-checked_mul.ensures
    ∙ sym (too_large a.base l.total a.text.now l.b-index c.loop-b-test.true (omega (arith, d.1, c.if-d-base.false)) (omega (arith, over)))
    ∙ l.invariant

pub returns-in_err-total : goal.returns-in_err-total
returns-in_err-total c =
    let a = c.args in
    let l = c.loop-b in
    let d = c.in_ok-d.ensures in
    let m = c.in_ok-checked_mul.ensures in
    let over : 2 ^ 64 ≤ c.in_ok-checked_mul.field-0 + c.in_ok-d.d = omega (arith, c.in_err-total.ensures) in
    c.from_residual-in_err-total.ensures
    ∙ sym (too_large a.base l.total a.text.now l.b-index c.loop-b-test.true (omega (arith, d.1, c.if-d-base.false)) (omega (arith, over, m.1, d.1)))
    ∙ l.invariant

pub loop-b-preserved : goal.loop-b-preserved
loop-b-preserved c =
    let a = c.args in
    let l = c.loop-b in
    let d = c.in_ok-d.ensures in
    let m = c.in_ok-checked_mul.ensures in
    let s = c.in_ok-total.ensures in
    let is : c.in_ok-total.total ≡ l.total * a.base + digit_of (get_or a.text.now l.b-index 0) = omega (arith, s.1, m.1, d.1) in
    rw is
    (sym (goes_on a.base l.total a.text.now l.b-index c.loop-b-test.true (omega (arith, d.1, c.if-d-base.false)) (omega (arith, s.0, s.1, m.1, d.1)))
    ∙ l.invariant)

pub returns : goal.returns
returns c =
    let l = c.loop-b in
    sym (ends c.args.base l.total c.args.text.now l.b-index c.loop-b-test.false) ∙ l.invariant
