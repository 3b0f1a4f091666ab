-- `text::numbers::digit` meets its contract: std's digits below 16 are these. Assumes nothing.
use Rattle.std.proofs.Common.{◌≡◌, ℕ, ◌<◌, ◌≤◌, ap, sym, ◌∙◌, arith}
use Rattle.std.proofs.lemmas.Bool.Decides.{nat_tests}
use Rattle.std.specs.Char.{digit_value}
use Rattle.text.specs.Numbers.{digit_of}
use Rattle.text.proofs.numbers.digit.Goals as goal

same : (b : ℕ) → digit_value b < 16 → digit_of b ≡ digit_value b
unfolding digit_of
same b h = grind (arith, nat_tests)

none : (b : ℕ) → 16 ≤ digit_value b → digit_of b ≡ 16
unfolding digit_of
none b h = grind (arith, nat_tests)

pub returns-in_err-d : goal.returns-in_err-d
returns-in_err-d c =
    let b = c.args.b in
    let is = c.from.ensures in
    let over : 16 ≤ digit_value b = omega (arith, rw is at c.in_err-d.ensures.value) in
    let e = none b over in
    rw c.from_residual.ensures (λ h. omega (arith, h, e))

pub returns : goal.returns
returns c =
    let b = c.args.b in
    let is = c.from.ensures in
    let d = c.in_ok-d.ensures.value in
    let small = rw is at d.0 in
    let e = same b small in
    (omega (arith, e, small), c.from-2.ensures ∙ d.1 ∙ ap digit_value is ∙ sym e)
