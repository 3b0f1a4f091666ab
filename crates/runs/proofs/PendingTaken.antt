-- The surfaces that an undamaged, unfinished row asks the merit of pass check 3. Assumes nothing.
use Rattle.std.specs.Prelude.{◌≡◌, Bool, false, not}
use Rattle.std.proofs.Common.{sym, subst}
use Rattle.std.proofs.Math.Dec.{T}
use Rattle.optics.specs.Check.{surfaces_taken}
use Rattle.jobs.specs.declared.types.DlsConfig.{DlsConfig}
use Rattle.jobs.specs.declared.types.Job.{Job}
use Rattle.jobs.specs.declared.types.Method.{Method}
use Rattle.jobs.specs.declared.types.Method.TheVariants.{Damped, MultiStart, Annealing}
use Rattle.jobs.specs.declared.types.SimulatedAnnealingConfig.{SimulatedAnnealingConfig}
use Rattle.runs.specs.declared.types.DampedState.{DampedState}
use Rattle.runs.specs.declared.types.Row.{Row}
use Rattle.runs.specs.Run.{Surfaces}
use Rattle.runs.specs.AnnealingRun.{trial_presc, polisher}
use Rattle.runs.specs.AnnealingRow.{Phase, walk_first, walk, polishing, phase_of}
use Rattle.runs.specs.AnnealingRow as AnnealingRow
use Rattle.runs.specs.DampedRow as DampedRow
use Rattle.runs.specs.JobRun.{optimizer_of, annealer_of}
use Rattle.runs.specs.State.{State, state_of}
use Rattle.runs.specs.Rows.{job_of_row, pending_by, pending_surfaces, finished_by, is_finished}
use Rattle.runs.specs.Damage.{damaged, uses_current}
use Rattle.runs.proofs.DampedSound.{pending-taken}
use Rattle.runs.proofs.StateSound.{sound-from}
use Rattle.runs.proofs.Usable.{Usable}
use Rattle.runs.proofs.DamageLaws.{parts, undamaged-usable}

module _ (job : Job) (k : Usable job) where
  abbrev Taken : Surfaces → Type 0
  Taken x = T (surfaces_taken x job.prescription.surface_count)

  in-damped : (config : DlsConfig) (d : DampedState) → Taken d.surfaces → Taken (DampedRow.pending (optimizer_of job config) d)
  in-damped config d h = pending-taken (optimizer_of job config) Taken k.applies d h

  in-annealing : (config : SimulatedAnnealingConfig) (f : Phase) (s : State) → Taken s.damped.surfaces
      → Taken (AnnealingRow.pending_at (annealer_of job config) f s)
  unfolding AnnealingRow.pending_at trial_presc
  in-annealing config walk_first s h = h
  in-annealing config walk s h = k.applies s.damped.candidate s.damped.surfaces h
  in-annealing config polishing s h = pending-taken (polisher (annealer_of job config)) Taken k.applies s.damped h

  pending-by : (m : Method) (s : State) → (T (uses_current m s) → Taken s.damped.surfaces) → finished_by m s ≡ false → Taken (pending_by m job s)
  unfolding pending_by AnnealingRow.pending
  pending-by (Damped config) s h u = in-damped config s.damped (h tt)
  pending-by (MultiStart config) s h u = in-damped config.local_dls_config s.damped (h (subst (λ (b : Bool). T (not b)) (sym u) tt))
  pending-by (Annealing config) s h u = in-annealing config (phase_of s.damped.phase) s (h tt)

pub pending-checked : (r : Row) → damaged r ≡ false → is_finished r ≡ false → T (surfaces_taken (pending_surfaces r) (job_of_row r).prescription.surface_count)
unfolding pending_surfaces is_finished
pending-checked r h u =
    let sound = parts r h in
    let m = (job_of_row r).method in
    pending-by (job_of_row r) (undamaged-usable r sound) m (state_of r) (sound-from m (job_of_row r) (state_of r) sound.1).current u
