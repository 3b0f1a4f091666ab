-- What a held job is read as, of the two arrays that are lent. Definitions only.
use Rattle.std.specs.Prelude.{ℕ}
use Rattle.variables.specs.declared.types.VariableSet.{VariableSet}
use Rattle.jobs.specs.declared.types.Job.{Job}
use Rattle.jobs.specs.declared.types.SettingsRecord.{SettingsRecord}
use Rattle.held.specs.declared.types.LentJob.{LentJob}
use Rattle.held.specs.JobFrom.{operand_count_from, variables_from, settings_from, held_job}

abbrev pub variables_of : LentJob → VariableSet
variables_of j = variables_from j.counts.now j.numbers.now

abbrev pub operand_count_of : LentJob → ℕ
operand_count_of j = operand_count_from j.counts.now

abbrev pub settings_of : LentJob → SettingsRecord
settings_of j = settings_from j.counts.now j.numbers.now

-- under the row's kind
abbrev pub job_of : LentJob → (kind : ℕ) → Job
job_of j = held_job j.counts.now j.numbers.now
