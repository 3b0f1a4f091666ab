-- `answers::lines::answer_lines` meets its contract: so many steps are done, and the loop is over where no further one is. Assumes nothing.
use Rattle.std.proofs.Common.{sym, ◌∙◌, arith, true≢false}
use Rattle.answers.proofs.Going.{begin, further, over}
use Rattle.answers.proofs.lines.answer_lines.Goals as goal

pub loop-init : goal.loop-init
loop-init g c = record { from_le_to = c.requires.from_le_to; to_in_bounds = c.requires.to_in_bounds; going = begin _ _ _ }

pub loop-preserved : goal.loop-preserved
loop-preserved g c =
    let l = c.loop in
    let next = c.answer_next-input.ensures in
    record {
      from_le_to = next.within.0;
      to_in_bounds = next.within.1;
      going = further _ _ l.invariant.going (record { goes_on = sym c.goes_on.ensures ∙ c.if-not-goes_on.false; step = next.step });
    }

pub returns-after-loop : goal.returns-after-loop
returns-after-loop g c = over _ _ c.loop.invariant.going (λ h. omega (arith, c.loop-test.false))

pub returns-then-not-goes_on : goal.returns-then-not-goes_on
returns-then-not-goes_on g c =
    over _ _ c.loop.invariant.going (λ h. absurd (true≢false (sym h ∙ sym c.goes_on.ensures ∙ c.if-not-goes_on.true)))
