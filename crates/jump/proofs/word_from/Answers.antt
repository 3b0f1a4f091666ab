-- `jump::word_from` meets its contract. Assumes nothing.
use mathlib.Core.Path.{◌∙◌, ap, sym}
use native.Mathlib.Omega.{arith}
use Rattle.xorshift.specs.Xorshift.{step_of}
use Rattle.jump.proofs.Words.{one_bit, is-first, is_later}
use Rattle.jump.proofs.word_from.Goals as goal

pub returns-then-at-lt64 : goal.returns-then-at-lt64
returns-then-at-lt64 c =
    let a = c.args in
    c.step.ensures ∙ ap step_of (one_bit a.at c.if-at-lt64.true) ∙ sym (is-first a.tables.now a.at c.if-at-lt64.true)

pub returns-else-at-lt64 : goal.returns-else-at-lt64
returns-else-at-lt64 c =
    let a = c.args in
    c.applied.ensures ∙ sym (is_later a.tables.now a.at (omega arith))
