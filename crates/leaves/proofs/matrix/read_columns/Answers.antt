-- `leaves::matrix::read_columns` meets its contract: what is left to be read makes the rest. Assumes nothing.
use Rattle.std.proofs.Common.{◌≡◌, ◌-◌, ◌+◌, ◌*◌, ℕ, suc, ap, ◌∙◌, arith}
use Rattle.std.proofs.lemmas.Grind.{common_steps}
use Rattle.text.specs.Reader.{past_floats, left_at}
use Rattle.leaves.proofs.Past.{part, stopped, ended, one_column}
use Rattle.leaves.proofs.matrix.read_columns.Goals as goal

pub loop-q-preserved : goal.loop-q-preserved
loop-q-preserved c =
    let a = c.args in
    let l = c.loop-q in
    let line = a.reader.now.line.now in
    let read = c.in_ok-read_part.ensures in
    let k = a.p - (l.q + 1) in
    let next : a.p - l.q ≡ suc k = omega arith in
    let more = ap (λ (n : ℕ). past_floats (n * a.m) line l.reader.at) next ∙ ap (λ (n : ℕ). past_floats n line l.reader.at) (one_column k a.m) in
    record {
      same = read.same ∙ l.invariant.same;
      left = part line _ _ a.m (k * a.m) (l.invariant.left ∙ more) (rw l.invariant.same at read.value);
    }

pub returns-in_err-read_part : goal.returns-in_err-read_part
returns-in_err-read_part c =
    let a = c.args in
    let l = c.loop-q in
    let line = a.reader.now.line.now in
    let read = c.in_err-read_part.ensures in
    let k = a.p - (l.q + 1) in
    let next : a.p - l.q ≡ suc k = omega arith in
    let more = ap (λ (n : ℕ). past_floats (n * a.m) line l.reader.at) next ∙ ap (λ (n : ℕ). past_floats n line l.reader.at) (one_column k a.m) in
    let end = stopped line _ _ {w = c.in_err-read_part.field-0.0} c.read_part.new.reader.at a.m (k * a.m) (l.invariant.left ∙ more)
    (rw l.invariant.same at read.value) (rw l.invariant.same at read.left) in
    record { value = grind (arith, common_steps, end.0); left = end.1; same = read.same ∙ l.invariant.same }

pub returns : goal.returns
returns c =
    let a = c.args in
    let l = c.loop-q in
    let line = a.reader.now.line.now in
    let none : a.p - l.q ≡ 0 = omega arith in
    let zero : 0 * a.m ≡ 0 = omega arith in
    let all = ap (λ (n : ℕ). n * a.m) none ∙ zero in
    let end = ended line _ _ (l.invariant.left ∙ ap (λ (n : ℕ). past_floats n line l.reader.at) all) in
    record { value = end; left = ap left_at end; same = l.invariant.same }
