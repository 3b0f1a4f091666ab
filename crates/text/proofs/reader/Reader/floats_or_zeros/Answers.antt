-- `text::reader::Reader::floats_or_zeros` meets its contract. Assumes nothing.
use Rattle.std.proofs.Common.{◌<◌, ◌≤◌, length, refl, sym, ap, ◌∙◌, arith}
use Rattle.std.specs.Float.{binary64}
use Rattle.std.specs.Float.Ieee.{of_bits}
use Rattle.text.specs.Reader.{left_at}
use Rattle.text.proofs.FloatsOrZeros.{more, stopped, ended, rest_over}
use Rattle.text.proofs.reader.Reader.floats_or_zeros.Goals as goal

pub loop-i-init : goal.loop-i-init
loop-i-init c = record { same = refl; reading = record { past = refl; over = refl } }

pub loop-i-preserved : goal.loop-i-preserved
loop-i-preserved c =
    let l = c.loop-i in
    let h : l.i < length l.row = omega arith in
    let read = c.in-Ok.ensures in
    record { same = read.same ∙ l.invariant.same; reading = more _ _ _ l.invariant.reading h (rw (sym l.invariant.same) read.value) }

pub returns-in-Err-clause-value : goal.returns-in-Err-clause-value
returns-in-Err-clause-value c =
    let l = c.loop-i in
    let h : l.i < length l.row = omega arith in
    let read = c.in-Err.ensures in
    let end = stopped _ _ _ l.invariant.reading {w = c.in-Err.wrong} c.float.new.self.at h
    (rw (sym l.invariant.same) read.value) (rw (sym l.invariant.same) read.left) in
    record { value = end.0; left = end.1; same = read.same ∙ l.invariant.same }

pub returns-in-Err-clause-row_after : goal.returns-in-Err-clause-row_after
returns-in-Err-clause-row_after c =
    let l = c.loop-i in
    let h : l.i < length l.row = omega arith in
    let read = c.in-Err.ensures in
    let end = stopped _ _ _ l.invariant.reading {w = c.in-Err.wrong} c.float.new.self.at h
    (rw (sym l.invariant.same) read.value) (rw (sym l.invariant.same) read.left) in
    rest_over l.row c.fill.new.self l.i (of_bits binary64 0) (c.fill.ensures.after (λ y k. k)) ∙ end.2

pub returns-clause-value : goal.returns-clause-value
returns-clause-value c =
    let h : length c.loop-i.row ≤ c.loop-i.i = omega arith in
    let end = ended _ _ _ c.loop-i.invariant.reading h in
    record { value = end.0; left = ap left_at end.0; same = c.loop-i.invariant.same }

pub returns-clause-row_after : goal.returns-clause-row_after
returns-clause-row_after c =
    let h : length c.loop-i.row ≤ c.loop-i.i = omega arith in
    (ended _ _ _ c.loop-i.invariant.reading h).1
