-- What a contract says of the evaluation whose values a call is handed: merit and residuals follow from them. Definitions only.
use Rattle.std.specs.Prelude.{◌≡◌, List, ℕ, Float}
use Rattle.merit.specs.declared.types.MeritEvaluation.{MeritEvaluation}
use Rattle.runs.specs.Run.{Surfaces}
use Rattle.runs.specs.JobMerit.{evaluate_of}
use Rattle.held.specs.declared.types.LentJob.{LentJob}
use Rattle.held.specs.JobOf.{job_of}

-- every evaluation under the held job that has these values
abbrev pub ForFound : LentJob → (found : List Float) → (MeritEvaluation → Type 0) → Type 0
ForFound held found P = (kind : ℕ) (s : Surfaces) → found ≡ (evaluate_of (job_of held kind) s).values → P (evaluate_of (job_of held kind) s)
