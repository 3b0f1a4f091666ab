-- `held::types::LentJob::variable_at` meets its contract. Assumes nothing.
use mathlib.Core.Path.{sym}
use Rattle.held.specs.EntryLaws.{variable-from}
use Rattle.std.proofs.Common.{rules}
use Rattle.held.proofs.types.LentJob.variable_at.Goals as goal

pub returns : goal.returns
returns c =
    let follower = c in
    let x = follower.args in
    rw (follower.variable_type-kind.ensures, follower.follower_of-follower.ensures)
    (sym (variable-from x.self.counts.now x.self.numbers.now x.i (search rules)))
