-- Merit and residuals of any values under a held job, and that those of a lens's values are the lens's. Assumes nothing.
use Rattle.std.specs.Prelude.{◌≡◌, List, ℕ, Float}
use Rattle.std.proofs.Common.{◌∙◌}
use Rattle.optics.specs.Types.{surface_at, slot_index}
use Rattle.runs.specs.JobMerit.{evaluate_of}
use Rattle.runs.specs.Run.{Surfaces}
use Rattle.held.specs.JobFrom.{surface_count_from, pupil_from, indices_from, operands_from, held_job}
use Rattle.heldmerit.specs.HeldOver.{merit_over, residuals_over}
use Rattle.heldmerit.proofs.Over.{merit-over, residuals-over}

module _ (counts : List ℕ) (numbers values : List Float) where
  pub merit-held : {r : Float} → r ≡ merit_over counts numbers values → (kind : ℕ) (s : Surfaces)
      → values ≡ (evaluate_of (held_job counts numbers kind) s).values → r ≡ (evaluate_of (held_job counts numbers kind) s).total_merit
  unfolding merit_over evaluate_of
  merit-held e kind s w =
      e ∙ merit-over (surface_at s) (slot_index (indices_from numbers)) (pupil_from numbers) (surface_count_from counts) (operands_from counts numbers) values w

  pub residuals-held : {r : List Float} → r ≡ residuals_over counts numbers values → (kind : ℕ) (s : Surfaces)
      → values ≡ (evaluate_of (held_job counts numbers kind) s).values → r ≡ (evaluate_of (held_job counts numbers kind) s).residuals
  unfolding residuals_over evaluate_of
  residuals-held e kind s w =
      e ∙ residuals-over (surface_at s) (slot_index (indices_from numbers)) (pupil_from numbers) (surface_count_from counts)
      (operands_from counts numbers) values w
