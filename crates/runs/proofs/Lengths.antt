-- Every state that a run comes to has sixteen surfaces, and so has its best result. Assumes nothing.
use Rattle.std.specs.Prelude.{◌≡◌, Bool, cond, List, ltb, Float, length}
use Rattle.std.proofs.Math.Path.{refl}
use Rattle.std.proofs.Common.{ap, ◌∙◌}
use Rattle.std.proofs.Math.Bool.{true, false}
use Prim.Native.Nat.{ℕ, zero, suc}
use Rattle.std.specs.Float.Ieee.{binary64, sub, le}
use Rattle.floats.specs.Constants.{zero64}
use Rattle.xorshift.specs.Xorshift.{step_of}
use Rattle.variables.proofs.CallerLaws.{length-applied}
use Rattle.merit.specs.declared.types.MeritEvaluation.{MeritEvaluation}
use Rattle.jobs.specs.declared.types.Job.{Job}
use Rattle.jobs.specs.declared.types.Method.{Method}
use Rattle.jobs.specs.declared.types.Method.TheVariants.{Damped, MultiStart, Annealing}
use Rattle.runs.specs.declared.types.DampedState.{DampedState}
use Rattle.runs.specs.declared.types.OptimizationResult.{OptimizationResult}
use Rattle.runs.specs.declared.types.Row.{Row}
use Rattle.runs.specs.Run.{Surfaces}
use Rattle.runs.specs.JobRun.{base_of, optimizer_of, annealer_of}
use Rattle.runs.specs.State.{State, state_of}
use Rattle.runs.specs.DampedRun.{Optimizer, test_presc}
use Rattle.runs.specs.DampedRow.{Phase, first, plus, minus, candidate, finished, phase_of}
use Rattle.runs.specs.DampedRow as DampedRow
use Rattle.runs.proofs.DampedInvariant.{Invariant, Before, keeps}
use Rattle.runs.specs.MultiStartRun.{merged, is_lower, trial_presc}
use Rattle.runs.specs.MultiStartRow as MultiStartRow
use Rattle.runs.specs.AnnealingRun.{Annealer, Walk, after_draws, judged, accepted, moved, if_best, if_drawn, if_not_risen, polisher, cooled, with_rng}
use Rattle.runs.specs.AnnealingRun as AnnealingRun
use Rattle.runs.specs.AnnealingRow.{walk_first, walk, polishing}
use Rattle.runs.specs.AnnealingRow as AnnealingRow
use Rattle.runs.specs.Rows.{job_of_row, began, admitted, advance_by, advance, finished_by, is_finished, pending_surfaces}
use Rattle.runs.proofs.RowLaws.{ReadBack, job-admitted, job-advance}
use Rattle.runs.specs.RowAfter.{row_after}
use Rattle.runs.proofs.Turned.{reached}

abbrev pub Sixteen : Surfaces → Type 0
Sixteen s = length s ≡ 16

pub record Whole (s : State) : Type 0 where
  pub damped : Sixteen s.damped.surfaces
  pub best : Sixteen s.best.surfaces

-- ---- a damped run
module _ (o : Optimizer) where
  sixteen : Invariant o
  unfolding test_presc
  sixteen = record {
    Start = Sixteen;
    Answer = λ e. Unit {0};
    Holds = λ s. Sixteen s.surfaces;
    AtColumn = λ q j. Unit {0};
    Full = λ j. Unit {0};
    Residuals = λ r. Unit {0};
    Candidate = λ c. Unit {0};
    State = λ d. Sixteen d.surfaces;
    starts = λ x e h n. h;
    raises = λ s h. h;
    counts = λ s h e. h;
    moves = λ c e s h g n. length-applied o.variables c s.surfaces ∙ h;
    first_column = λ e. tt;
    no_column = λ e. tt;
    next_column = λ s q j r m h a b c e. tt;
    last_column = λ s q j r m h a b c e. tt;
    solves = λ j s h f. tt;
    answers = λ e n. tt;
    state_plus = λ s j q h a. h;
    state_minus = λ s j q r h a b. h;
    state_candidate = λ s j k c h f g l. h;
    state_ended = λ c s h. h;
  }

  before : (f : Phase) (d : DampedState) → Sixteen d.surfaces → Before o sixteen f d
  unfolding sixteen
  before first d h = h
  before plus d h = (h, tt)
  before minus d h = (h, tt, tt)
  before candidate d h = (h, tt, tt)
  before finished d h = tt

  damped-sixteen : (d : DampedState) (e : MeritEvaluation) → DampedRow.is_finished d ≡ false → Sixteen d.surfaces
      → Sixteen (DampedRow.advance o d e).surfaces
  unfolding sixteen
  damped-sixteen d e u h = keeps o sixteen d e u (before (phase_of d.phase) d h) tt

-- ---- multi-start
module _ (o : Optimizer) (base : Surfaces) (based : Sixteen base) (trials : ℕ) where
  merged-sixteen : (b : Bool) (result best : OptimizationResult) → Sixteen result.surfaces → Sixteen best.surfaces
      → Sixteen (cond b result best).surfaces
  merged-sixteen true result best h g = h
  merged-sixteen false result best h g = g

  best-sixteen : (trial : ℕ) (best result : OptimizationResult) → Sixteen best.surfaces → Sixteen result.surfaces →
      Sixteen (merged (MultiStartRow.best_before trial best) result).surfaces
  unfolding MultiStartRow.best_before merged
  best-sixteen zero best result h g = g
  best-sixteen (suc t) best result h g = merged-sixteen (is_lower result best) result best g h

  next-sixteen : (b : Bool) (best : OptimizationResult) (g t : ℕ) → Sixteen best.surfaces → Whole (MultiStartRow.resume_trials o base trials b best g t)
  unfolding MultiStartRow.resume_trials trial_presc
  next-sixteen true best g t h = record { damped = length-applied o.variables _ base ∙ based; best = h }
  next-sixteen false best g t h = record { damped = refl; best = h }

  ended-whole : (b : Bool) (s : State) (d : DampedState) → Sixteen d.surfaces → Whole s → Whole (MultiStartRow.resume_damped o base trials b s d)
  unfolding MultiStartRow.resume_damped
  ended-whole true s d h w =
      next-sixteen (ltb s.trial trials) _ s.generator s.trial (best-sixteen s.trial s.best (DampedRow.result_of d) w.best h)
  ended-whole false s d h w = record { damped = h; best = w.best }

  multi-start-whole : (s : State) (e : MeritEvaluation) → MultiStartRow.is_finished s ≡ false → Whole s → Whole (MultiStartRow.advance o base trials s e)
  unfolding MultiStartRow.advance
  multi-start-whole s e u w =
      let d = DampedRow.advance o s.damped e in ended-whole (DampedRow.is_finished d) s d (damped-sixteen o s.damped e u w.damped) w

-- ---- annealing
module _ (a : Annealer) where
  pub record Walks (w : Walk) : Type 0 where
    pub here : Sixteen w.surfaces
    pub best : Sixteen w.best_surfaces

  drawn-walks : (w : Walk) → Walks w → Walks (after_draws a w)
  unfolding after_draws
  drawn-walks w h = record { here = h.here; best = h.best }

  best-walks : (b : Bool) (w : Walk) → Walks w → Walks (if_best b w)
  unfolding if_best
  best-walks true w h = record { here = h.here; best = h.here }
  best-walks false w h = h

  accepted-walks : (trial : List Float) (m : Float) (w : Walk) → Walks w → Walks (accepted a trial m w)
  unfolding accepted AnnealingRun.trial_presc
  accepted-walks trial m w h =
      best-walks _ (moved a trial m w) record { here = length-applied a.variables trial w.surfaces ∙ h.here; best = h.best }

  module _ (trial : List Float) (m : Float) where
    drawn : (b : Bool) (w : Walk) → Walks w → Walks (if_drawn a b trial m w)
    unfolding if_drawn
    drawn true w h = accepted-walks trial m w h
    drawn false w h = h

    not-risen : (b : Bool) (delta : Float) (w : Walk) → Walks w → Walks (if_not_risen a b trial m delta w)
    unfolding if_not_risen
    not-risen true delta w h = accepted-walks trial m w h
    not-risen false delta w h = drawn _ (with_rng w (step_of w.rng)) record { here = h.here; best = h.best }

  judged-walks : (trial : List Float) (e : MeritEvaluation) (w : Walk) → Walks w → Walks (judged a trial e w)
  unfolding judged
  judged-walks trial e w h = not-risen trial e.total_merit (le (sub binary64 e.total_merit w.current_merit) zero64) _ w h

  step-whole : (m : Float) (w : Walk) (c k : ℕ) → Walks w → Whole (AnnealingRow.at_step a m w c k)
  step-whole m w c k h = let d = drawn-walks w h in record { damped = d.here; best = d.best }

  cycles-whole : (b : Bool) (m : Float) (w : Walk) (c : ℕ) → Walks w → Whole (AnnealingRow.resume_cycles a b m w c)
  unfolding AnnealingRow.resume_cycles
  cycles-whole true m w c h = step-whole m w c 0 h
  cycles-whole false m w c h = record { damped = h.best; best = refl }

  steps-whole : (b : Bool) (m : Float) (w : Walk) (c k : ℕ) → Walks w → Whole (AnnealingRow.resume_steps a b m w c k)
  unfolding AnnealingRow.resume_steps
  steps-whole true m w c k h = step-whole m w c k h
  steps-whole false m w c k h =
      cycles-whole (AnnealingRow.is_cycle a (suc c)) m (cooled a.config.cooling_rate w) (suc c) record { here = h.here; best = h.best }

  advance-walk : (f : AnnealingRow.Phase) (s : State) (e : MeritEvaluation) → AnnealingRow.finished_at f s ≡ false → Whole s
      → Whole (AnnealingRow.advance_at a f s e)
  unfolding AnnealingRow.advance_at AnnealingRow.finished_at
  advance-walk walk_first s e u w = cycles-whole (AnnealingRow.is_cycle a 0) e.total_merit _ 0 record { here = w.damped; best = w.damped }
  advance-walk walk s e u w =
      steps-whole _ s.best.initial_merit _ s.cycle (suc s.step)
      (judged-walks s.damped.candidate e (AnnealingRow.walk_of s) record { here = w.damped; best = w.best })
  advance-walk polishing s e u w = record { damped = damped-sixteen (polisher a) s.damped e u w.damped; best = w.best }

  annealing-whole : (s : State) (e : MeritEvaluation) → AnnealingRow.is_finished s ≡ false → Whole s → Whole (AnnealingRow.advance a s e)
  unfolding AnnealingRow.advance AnnealingRow.is_finished
  annealing-whole s e u w = advance-walk (AnnealingRow.phase_of s.damped.phase) s e u w

-- ---- a job's run
began-whole : (m : Method) (job : Job) → Sixteen (base_of job) → Whole (began m job)
unfolding began
began-whole (Damped config) job h = record { damped = h; best = refl }
began-whole (MultiStart config) job h = record { damped = h; best = refl }
began-whole (Annealing config) job h = record { damped = h; best = refl }

advance-whole : (m : Method) (job : Job) (s : State) (e : MeritEvaluation) → Sixteen (base_of job) → finished_by m s ≡ false → Whole s
    → Whole (advance_by m job s e)
unfolding advance_by finished_by
advance-whole (Damped config) job s e b u w = record { damped = damped-sixteen (optimizer_of job config) s.damped e u w.damped; best = w.best }
advance-whole (MultiStart config) job s e b u w = multi-start-whole (optimizer_of job config.local_dls_config) (base_of job) b config.num_trials s e u w
advance-whole (Annealing config) job s e b u w = annealing-whole (annealer_of job config) s e u w

turned-whole : (r : Row) (e : MeritEvaluation) → Sixteen (base_of (job_of_row r)) → is_finished r ≡ false → Whole (state_of r) → Whole (state_of (advance r e))
unfolding advance is_finished
turned-whole r e b u w = advance-whole (job_of_row r).method (job_of_row r) (state_of r) e b u w

pub whole-after : (f : Surfaces → MeritEvaluation) (job : Job) → ReadBack job → Sixteen (base_of job) → (k : ℕ) → Whole (state_of (row_after f k job))
unfolding admitted
whole-after f job back b k =
    (reached f (λ (r : Row). (job_of_row r ≡ job) × Whole (state_of r)) job (job-admitted job back, began-whole job.method job b)
    (λ r u h. (job-advance r (f (pending_surfaces r)) ∙ h.0, turned-whole r (f (pending_surfaces r)) (ap (λ (j : Job). length (base_of j)) h.0 ∙ b) u h.1))
    k).1
