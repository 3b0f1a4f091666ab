-- `text::reader::Reader::floats` meets its contract. Assumes nothing.
use Rattle.std.proofs.Common.{◌<◌, ◌≤◌, length, refl, sym, ap, ◌∙◌, arith, ◌≡◌, Float, Err}
use Rattle.std.proofs.lemmas.Grind.{common_steps}
use Rattle.std.proofs.lemmas.List.{set-get_or}
use Rattle.text.specs.Reader.{float_from, came, left_at}
use Rattle.text.proofs.Floats.{more, stopped, ended}
use Rattle.text.proofs.reader.Reader.floats.Goals as goal

pub loop-x-init : goal.loop-x-init
loop-x-init c = record { same = refl; reading = record { past = refl; over = refl } }

pub loop-x-preserved : goal.loop-x-preserved
loop-x-preserved c =
    let l = c.loop-x in
    let h : l.x-index < length l.x-items = omega arith in
    let read = c.in_ok-x.ensures in
    record { same = read.same ∙ l.invariant.same; reading = more _ _ _ l.invariant.reading h (rw (sym l.invariant.same) read.value) }

pub returns-in_err-x-clause-value : goal.returns-in_err-x-clause-value
returns-in_err-x-clause-value c =
    let l = c.loop-x in
    let h : l.x-index < length l.x-items = omega arith in
    let read = c.in_err-x.ensures in
    let there = float_from c.args.self.now.line.now l.self.at in
    let is : came {A = Float} (Err c.in_err-x.field-0.0) c.float.new.self.at ≡ there = rw (sym l.invariant.same) read.value in
    let stays : c.float.new.self.at ≡ left_at there = rw (sym l.invariant.same) read.left in
    let end = stopped _ _ _ l.invariant.reading {w = c.in_err-x.field-0.0} c.float.new.self.at h is in
    record {
      value = grind (arith, common_steps, end.0);
      left = stays ∙ ap left_at (sym is) ∙ ap left_at end.0;
      same = read.same ∙ l.invariant.same;
    }

pub returns-in_err-x-clause-row_after : goal.returns-in_err-x-clause-row_after
returns-in_err-x-clause-row_after c =
    let l = c.loop-x in
    let h : l.x-index < length l.x-items = omega arith in
    let read = c.in_err-x.ensures in
    set-get_or _ _ _ ∙ (stopped _ _ _ l.invariant.reading {w = c.in_err-x.field-0.0} c.float.new.self.at h (rw (sym l.invariant.same) read.value)).1

pub returns-clause-value : goal.returns-clause-value
returns-clause-value c =
    let h : length c.loop-x.x-items ≤ c.loop-x.x-index = omega arith in
    let end = ended _ _ _ c.loop-x.invariant.reading h in
    record { value = end.0; left = ap left_at end.0; same = c.loop-x.invariant.same }

pub returns-clause-row_after : goal.returns-clause-row_after
returns-clause-row_after c =
    let h : length c.loop-x.x-items ≤ c.loop-x.x-index = omega arith in
    (ended _ _ _ c.loop-x.invariant.reading h).1
