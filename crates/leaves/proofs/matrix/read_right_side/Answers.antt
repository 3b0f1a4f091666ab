-- `leaves::matrix::read_right_side` meets its contract: what is left to be read makes the rest. Assumes nothing.
use Rattle.std.proofs.Common.{◌≡◌, ◌-◌, ◌+◌, ℕ, ap, ◌∙◌, arith}
use Rattle.std.proofs.lemmas.Grind.{common_steps}
use Rattle.text.specs.Reader.{past_floats, left_at}
use Rattle.leaves.proofs.Past.{part, stopped, ended, one_float, one_wrong}
use Rattle.leaves.proofs.matrix.read_right_side.Goals as goal

pub loop-i-preserved : goal.loop-i-preserved
loop-i-preserved c =
    let l = c.loop-i in
    let line = c.args.reader.now.line.now in
    let read = c.in_ok-scratch.ensures in
    let next : c.args.p - l.i ≡ 1 + (c.args.p - (l.i + 1)) = omega arith in
    let is = one_float line l.reader.at (rw l.invariant.same at read.value) in
    record {
      same = read.same ∙ l.invariant.same;
      left = part line _ _ 1 (c.args.p - (l.i + 1)) (l.invariant.left ∙ ap (λ (n : ℕ). past_floats n line l.reader.at) next) is;
    }

pub returns-in_err-scratch : goal.returns-in_err-scratch
returns-in_err-scratch c =
    let l = c.loop-i in
    let line = c.args.reader.now.line.now in
    let read = c.in_err-scratch.ensures in
    let next : c.args.p - l.i ≡ 1 + (c.args.p - (l.i + 1)) = omega arith in
    let value = rw l.invariant.same at read.value in
    let at = c.float.new.self.at in
    let is = one_wrong line l.reader.at at {w = c.in_err-scratch.field-0.0} value (rw l.invariant.same at read.left) in
    let left = l.invariant.left ∙ ap (λ (n : ℕ). past_floats n line l.reader.at) next in
    let end = stopped line _ _ at 1 (c.args.p - (l.i + 1)) left is.0 is.1 in
    record { value = grind (arith, common_steps, end.0); left = end.1; same = read.same ∙ l.invariant.same }

pub returns : goal.returns
returns c =
    let l = c.loop-i in
    let line = c.args.reader.now.line.now in
    let none : c.args.p - l.i ≡ 0 = omega arith in
    let end = ended line _ _ (l.invariant.left ∙ ap (λ (n : ℕ). past_floats n line l.reader.at) none) in
    record { value = end; left = ap left_at end; same = l.invariant.same }
