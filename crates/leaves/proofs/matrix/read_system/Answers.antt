-- `leaves::matrix::read_system` meets its contract: what is left to be read makes the rest. Assumes nothing.
use Rattle.std.proofs.Common.{◌≡◌, ◌-◌, ◌+◌, ◌*◌, ℕ, suc, sym, ap, ◌∙◌, arith}
use Rattle.std.proofs.lemmas.Grind.{common_steps}
use Rattle.text.specs.Reader.{past_floats, left_at}
use Rattle.leaves.proofs.Past.{part, stopped, one_row}
use Rattle.leaves.proofs.matrix.read_system.Goals as goal

pub loop-i-preserved : goal.loop-i-preserved
loop-i-preserved c =
    let a = c.args in
    let l = c.loop-i in
    let line = a.reader.now.line.now in
    let read = c.in_ok-read_part.ensures in
    let k = a.p - (l.i + 1) in
    let next : a.p - l.i ≡ suc k = omega arith in
    let more = ap (λ (n : ℕ). past_floats (n * a.p + a.p) line l.reader.at) next ∙ ap (λ (n : ℕ). past_floats n line l.reader.at) (one_row k a.p a.p) in
    record {
      same = read.same ∙ l.invariant.same;
      left = part line _ _ a.p (k * a.p + a.p) (l.invariant.left ∙ more) (rw l.invariant.same at read.value);
    }

pub returns-in_err-read_part : goal.returns-in_err-read_part
returns-in_err-read_part c =
    let a = c.args in
    let l = c.loop-i in
    let line = a.reader.now.line.now in
    let read = c.in_err-read_part.ensures in
    let k = a.p - (l.i + 1) in
    let next : a.p - l.i ≡ suc k = omega arith in
    let more = ap (λ (n : ℕ). past_floats (n * a.p + a.p) line l.reader.at) next ∙ ap (λ (n : ℕ). past_floats n line l.reader.at) (one_row k a.p a.p) in
    let end = stopped line _ _ {w = c.in_err-read_part.field-0.0} c.read_part.new.reader.at a.p (k * a.p + a.p) (l.invariant.left ∙ more)
    (rw l.invariant.same at read.value) (rw l.invariant.same at read.left) in
    record { value = grind (arith, common_steps, end.0); left = end.1; same = read.same ∙ l.invariant.same }

pub returns : goal.returns
returns c =
    let a = c.args in
    let l = c.loop-i in
    let line = a.reader.now.line.now in
    let read = c.read_right_side.ensures in
    let none : a.p - l.i ≡ 0 = omega arith in
    let last : 0 * a.p + a.p ≡ a.p = omega arith in
    let all = l.invariant.left ∙ ap (λ (n : ℕ). past_floats (n * a.p + a.p) line l.reader.at) none ∙ ap (λ (n : ℕ). past_floats n line l.reader.at) last in
    record {
      value = rw l.invariant.same at read.value ∙ sym all;
      left = rw l.invariant.same at read.left ∙ ap left_at (sym all);
      same = read.same ∙ l.invariant.same;
    }
