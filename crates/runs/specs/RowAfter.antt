-- A row turned again and again under an evaluation. Definitions only.
use Rattle.std.specs.Prelude.{Bool, true, false, ℕ, zero, suc}
use Rattle.merit.specs.declared.types.MeritEvaluation.{MeritEvaluation}
use Rattle.jobs.specs.declared.types.Job.{Job}
use Rattle.runs.specs.declared.types.Row.{Row}
use Rattle.runs.specs.Run.{Surfaces}
use Rattle.runs.specs.Rows.{admitted, pending_surfaces, advance, is_finished}

module _ (f : Surfaces → MeritEvaluation) where
  -- a turn: one merit, that of the pending surfaces
  abbrev pub turned : Row → Row
  turned r = advance r (f (pending_surfaces r))

  -- a finished row is not turned
  unfoldable pub turned_unless : Bool → Row → Row
  turned_unless true r = r
  turned_unless false r = turned r

  unfoldable pub row_after : ℕ → Job → Row
  row_after zero job = admitted job
  row_after (suc k) job = turned_unless (is_finished (row_after k job)) (row_after k job)
