-- `meritcalls::evaluation::root_of` meets its contract. Assumes nothing.
use mathlib.Core.Path.{sym, ◌∙◌}
use Rattle.floatlaws.specs.CallerLaws.{root-same}
use Rattle.meritcalls.proofs.evaluation.root_of.Goals as goal

pub returns-then-weight-known : goal.returns-then-weight-known
returns-then-weight-known c =
    let is = c.requires in
    (is ∙ sym (root-same _ _ c.if-weight-known.true c.if-weight.true), is)
