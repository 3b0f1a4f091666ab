-- `helddamage::checks::operand_sound` meets its contract. Assumes nothing.
use Rattle.std.proofs.Common.{Bool, ◌&&◌, ap, ◌∙◌, sym}
use Rattle.merit.specs.Check.{operand_taken}
use Rattle.jobs.specs.Entries.{operand_known}
use Rattle.held.specs.JobFrom.{operand_record_from}
use Rattle.helddamage.proofs.checks.operand_sound.Goals as goal

pub returns-then-operand_taken : goal.returns-then-operand_taken
returns-then-operand_taken c =
    let job = c.args.job in
    c.operand_known.ensures job.numbers.now
    ∙ ap (λ (b : Bool). b && operand_known (operand_record_from job.counts.now job.numbers.now c.args.n))
    (sym c.if-operand_taken.true ∙ c.operand_taken.ensures ∙ ap (operand_taken c.args.slots) c.operand_at.ensures)
