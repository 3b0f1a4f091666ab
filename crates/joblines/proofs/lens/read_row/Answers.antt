-- `joblines::lens::read_row` meets its contract. Assumes nothing.
use Rattle.std.proofs.Common.{refl, ap, ◌∙◌, arith}
use Rattle.std.proofs.lemmas.Grind.{common_steps}
use Rattle.text.specs.Reader.{float_from, left_at}
use Rattle.joblines.specs.Lens.{index_stored, row_from}
use Rattle.joblines.proofs.Reading.{left, laid, not-laid, begin, more, stopped, ended}
use Rattle.joblines.proofs.lens.read_row.Goals as goal

pub loop-w-init : goal.loop-w-init
unfolding row_from
loop-w-init c = record { same = refl; reading = begin _ _ _ _ _ _ refl }

pub loop-w-preserved : goal.loop-w-preserved
loop-w-preserved c =
    let l = c.loop-w in
    let read = c.in_ok-x.ensures in
    let put = laid float_from (index_stored c.args.i l.w) l.indices c.args.reader.now.line.now l.reader.at
    (rw l.invariant.same at read.value) c.keep_index.ensures in
    record { same = read.same ∙ l.invariant.same; reading = more _ _ _ _ l.invariant.reading c.loop-w-test.true put }

pub returns-in_err-x : goal.returns-in_err-x
returns-in_err-x c =
    let l = c.loop-w in
    let read = c.in_err-x.ensures in
    let none = not-laid float_from (index_stored c.args.i l.w) l.indices c.args.reader.now.line.now l.reader.at c.float.new.self.at
    (rw l.invariant.same at read.value) in
    let end = stopped _ _ _ _ l.invariant.reading {w = c.in_err-x.field-0.0} c.loop-w-test.true none in
    record { value = grind (arith, common_steps, end); left = left c.float.new.self.at read.value read.left end; same = read.same ∙ l.invariant.same }

pub returns : goal.returns
returns c =
    let end = ended _ _ _ _ c.loop-w.invariant.reading c.loop-w-test.false in
    record { value = end; left = ap left_at end; same = c.loop-w.invariant.same }
