-- `held::types::LentJob::operand_at` meets its contract. Assumes nothing.
use mathlib.Core.Path.{sym}
use Rattle.held.specs.EntryLaws.{operand-from}
use Rattle.std.proofs.Common.{rules}
use Rattle.held.proofs.types.LentJob.operand_at.Goals as goal

pub returns : goal.returns
returns c = let x = c.args in
    rw c.operand_type-kind.ensures (sym (operand-from x.self.counts.now x.self.numbers.now x.n (search rules)))
