-- `joblines::lens::read_rows` meets its contract. Assumes nothing.
use Rattle.std.proofs.Common.{refl, ap, ◌∙◌, arith}
use Rattle.std.proofs.lemmas.Grind.{common_steps}
use Rattle.joblines.specs.Lens.{rows_from}
use Rattle.text.specs.Reader.{left_at}
use Rattle.joblines.proofs.Reading.{left, begin, more, stopped, ended}
use Rattle.joblines.proofs.lens.read_rows.Goals as goal

pub loop-i-init : goal.loop-i-init
unfolding rows_from
loop-i-init c = record { same = refl; reading = begin _ _ _ _ _ _ refl }

pub loop-i-preserved : goal.loop-i-preserved
loop-i-preserved c =
    let l = c.loop-i in
    let read = c.in_ok-read_row.ensures in
    record {
      same = read.same ∙ l.invariant.same;
      reading = more _ _ _ _ l.invariant.reading c.loop-i-test.true (rw l.invariant.same at read.value);
    }

pub returns-in_err-read_row : goal.returns-in_err-read_row
returns-in_err-read_row c =
    let l = c.loop-i in
    let read = c.in_err-read_row.ensures in
    let end = stopped _ _ _ _ l.invariant.reading {w = c.in_err-read_row.field-0.0} c.loop-i-test.true (rw l.invariant.same at read.value) in
    record { value = grind (arith, common_steps, end); left = left c.read_row.new.reader.at read.value read.left end; same = read.same ∙ l.invariant.same }

pub returns : goal.returns
returns c =
    let end = ended _ _ _ _ c.loop-i.invariant.reading c.loop-i-test.false in
    record { value = end; left = ap left_at end; same = c.loop-i.invariant.same }
