-- `held::types::LentJob::indices` meets its contract. Assumes nothing.
use Rattle.held.specs.EntryLaws.{indices-part}
use Rattle.std.proofs.Common.{rules}
use Rattle.held.proofs.types.LentJob.indices.Goals as goal

pub returns : goal.returns
returns c = indices-part c.args.self.numbers.now (search rules)
