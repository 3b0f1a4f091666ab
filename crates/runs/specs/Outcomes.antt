-- What the results of runs are held to. Definitions only.
use Rattle.std.specs.Prelude.{◌≡◌, T}
use Rattle.std.specs.Float.Ieee.{le}
use Rattle.floats.specs.Basic.{finite_of}
use Rattle.merit.specs.declared.types.MeritEvaluation.{MeritEvaluation}
use Rattle.runs.specs.Run.{Surfaces}
use Rattle.runs.specs.JobRun.{Result}

-- a result's final merit, values and residuals are the evaluation of its surfaces
pub record Evaluated (f : Surfaces → MeritEvaluation) (r : Result) : Type 0 where
  pub final_merit : r.final_merit ≡ (f r.surfaces).total_merit
  pub values : r.values ≡ (f r.surfaces).values
  pub residuals : r.residuals ≡ (f r.surfaces).residuals

abbrev pub FiniteAnswer : Surfaces → MeritEvaluation → Type 0
FiniteAnswer s e = T (finite_of e.total_merit)

abbrev pub Descended : Result → Type 0
Descended r = T (finite_of r.final_merit) × T (le r.final_merit r.initial_merit)
