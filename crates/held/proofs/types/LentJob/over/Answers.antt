-- `held::types::LentJob::over` meets its contract. The check finds it alone; with this answer a narrower view is refused as one.
use Rattle.held.proofs.types.LentJob.over.Goals as goal

pub invariant_of-result : goal.invariant_of-result
invariant_of-result c = record { long = c.requires }
