-- `joblines::entries::read_entries` meets its contract. Assumes nothing.
use Rattle.std.proofs.Common.{◌≡◌, length, refl, ap, ◌∙◌, arith}
use Rattle.std.proofs.lemmas.Grind.{common_steps}
use Rattle.joblines.specs.Entries.{stored_at}
use Rattle.text.specs.Reader.{left_at}
use Rattle.joblines.proofs.Reading.{left, laid, not-laid, begin, more, stopped, ended}
use Rattle.joblines.proofs.entries.read_entries.Goals as goal
use Rattle.joblines.proofs.entries.read_entries.Goals.{then-i-kept, else-i-kept}

pub loop-i-init : goal.loop-i-init
loop-i-init g c = record { same = refl; reading = begin _ _ _ _ _ _ refl }

pub loop-i-preserved : goal.loop-i-preserved
loop-i-preserved g c =
    let l = c.loop-i in
    let read = c.in_ok-entry.ensures in
    let kept : c.if-i-kept.kept ≡ stored_at (length c.args.kept.now) l.i c.in_ok-entry.entry l.kept =
    elim c.if-i-kept.branch [
      | then-i-kept w ↦ grind (arith, w.if-i-kept.true, w.kept-is)
      | else-i-kept w ↦ grind (arith, w.if-i-kept.false, w.kept-is)
    ] in
    let put = laid g.T.Entry.from (stored_at (length c.args.kept.now) l.i) l.kept c.args.reader.now.line.now l.reader.at
    (rw l.invariant.same at read.value) kept in
    record { same = read.same ∙ l.invariant.same; reading = more _ _ _ _ l.invariant.reading c.loop-i-test.true put }

pub returns-in_err-entry : goal.returns-in_err-entry
returns-in_err-entry g c =
    let l = c.loop-i in
    let read = c.in_err-entry.ensures in
    let none = not-laid g.T.Entry.from (stored_at (length c.args.kept.now) l.i) l.kept c.args.reader.now.line.now l.reader.at c.read.new.reader.at
    (rw l.invariant.same at read.value) in
    let end = stopped _ _ _ _ l.invariant.reading {w = c.in_err-entry.field-0.0} c.loop-i-test.true none in
    record { value = grind (arith, common_steps, end); left = left c.read.new.reader.at read.value read.left end; same = read.same ∙ l.invariant.same }

pub returns : goal.returns
returns g c =
    let end = ended _ _ _ _ c.loop-i.invariant.reading c.loop-i-test.false in
    record { value = end; left = ap left_at end; same = c.loop-i.invariant.same }
