-- Annealing's walk read off its numbers and the lent parts of a row. Definitions only.
use Rattle.std.specs.Prelude.{◌≡◌}
use Rattle.runs.specs.AnnealingRun.{Walk}
use Rattle.held.specs.JobFrom.{standing}
use Rattle.held.specs.declared.types.HeldBest.{HeldBest}
use Rattle.held.specs.declared.types.HeldRun.{HeldRun}
use Rattle.annealing.specs.declared.judging.WalkHead.{WalkHead}

abbrev pub walk_from : WalkHead → HeldRun → HeldBest → Walk
walk_from w run best = record {
  surfaces = standing run.surfaces;
  params = run.params;
  current_merit = w.current_merit;
  best_surfaces = standing best.surfaces;
  best_merit = w.best_merit;
  rng = w.rng;
  temp = w.temp;
}

-- what the walk does not hold stays
pub record WalkAlone (run : HeldRun) (best : HeldBest) (run' : HeldRun) (best' : HeldBest) : Type 0 where
  pub jacobian : run'.jacobian ≡ run.jacobian
  pub values : run'.values ≡ run.values
  pub residuals : run'.residuals ≡ run.residuals
  pub plus_residuals : run'.plus_residuals ≡ run.plus_residuals
  pub candidate : run'.candidate ≡ run.candidate
  pub best_values : best'.values ≡ best.values
  pub best_residuals : best'.residuals ≡ best.residuals
