-- `intervalcalls::calls::limits_of` meets its contract. Assumes nothing.
use mathlib.Core.Path.{sym, ◌∙◌}
use Rattle.intervalcalls.proofs.Answers.{too_few, not-given, taken_as}
use Rattle.intervalcalls.proofs.calls.limits_of.Goals as goal

pub returns-then-prescription-lt2 : goal.returns-then-prescription-lt2
returns-then-prescription-lt2 c = rw (too_few c.args.prescription c.args.limits c.args.slot c.if-prescription-lt2.true)

pub returns-then-not-all_given : goal.returns-then-not-all_given
returns-then-not-all_given c =
    rw (not-given c.args.prescription c.args.limits c.args.slot c.if-prescription-lt2.false (sym c.all_given.ensures ∙ c.if-not-all_given.true))

pub returns : goal.returns
returns c =
    rw (taken_as c.args.prescription c.args.limits c.args.slot c.if-prescription-lt2.false (sym c.all_given.ensures ∙ c.if-not-all_given.false))
    c.worked.ensures
