-- A multi-start run between two merits: the damped run of a trial, and the best result of those before it. No evaluation and no trace stands in this
-- file. Definitions only.
use Rattle.std.specs.Prelude.{ℕ, zero, suc, ◌-◌, Bool, true, false, ltb}
use Rattle.floats.specs.Constants.{zero64}
use Rattle.xorshift.specs.Xorshift.{seeded}
use Rattle.merit.specs.declared.types.MeritEvaluation.{MeritEvaluation}
use Rattle.runs.specs.declared.types.DampedState.{DampedState}
use Rattle.runs.specs.declared.types.OptimizationResult.{OptimizationResult}
use Rattle.runs.specs.Run.{Surfaces, Run, done, ◌>>=◌}
use Rattle.runs.specs.Zeros.{zero_result}
use Rattle.runs.specs.DampedRun.{Optimizer}
use Rattle.runs.specs.MultiStartRun.{Best, none, some, the_best, merged, after_draws, trial_presc, trials}
use Rattle.runs.specs.DampedRow.{at_first, zero_at_end}
use Rattle.runs.specs.DampedRow as Damped
use Rattle.runs.specs.DampedResumption as Damped'
use Rattle.runs.specs.State.{State, with_best, with_damped}

-- trial 0 is the base's run, before which there is no best
unfoldable pub best_before : (trial : ℕ) → OptimizationResult → Best
best_before zero best = none
best_before (suc t) best = some best

abbrev pub best_of : State → Best
best_of s = best_before s.trial s.best

-- in a trial; the generator stands before the next one's draws
abbrev pub in_trial : DampedState → OptimizationResult → (generator trial : ℕ) → State
in_trial d best g t = record { damped = d; best = best; generator = g; trial = t; cycle = 0; step = 0; temperature = zero64; current_merit = zero64 }

-- at the end the best result alone is left
abbrev pub ended : OptimizationResult → State
ended best = with_best zero_at_end best

abbrev pub is_finished : State → Bool
is_finished s = Damped.is_finished s.damped

abbrev pub began : (base : Surfaces) (seed : ℕ) → State
began base seed = in_trial (at_first base) zero_result (seeded seed) 0

module _ (o : Optimizer) (base : Surfaces) (num_trials : ℕ) where
  -- whether there is another trial after trial t
  unfoldable pub resume_trials : Bool → OptimizationResult → (generator t : ℕ) → State
  resume_trials true best g t = in_trial (at_first (trial_presc o base g)) best (after_draws o.variables g) (suc t)
  resume_trials false best g t = ended best

  -- whether the trial's run is at its end
  unfoldable pub resume_damped : Bool → State → DampedState → State
  resume_damped true s d = resume_trials (ltb s.trial num_trials) (merged (best_of s) (Damped.result_of d)) s.generator s.trial
  resume_damped false s d = with_damped s d

  unfoldable pub advance : State → MeritEvaluation → State
  advance s e = let d = Damped.advance o s.damped e in resume_damped (Damped.is_finished d) s d

  -- ---- what is left of the run
  abbrev pub rest : State → OptimizationResult → Run OptimizationResult
  rest s result = do
    best ← trials o base (num_trials - s.trial) s.generator (some (merged (best_of s) result))
    done (the_best best)

  unfoldable pub resumption_if : Bool → State → Run OptimizationResult
  resumption_if true s = done s.best
  resumption_if false s = Damped'.resumption o s.damped >>= rest s

  unfoldable pub resumption : State → Run OptimizationResult
  resumption s = resumption_if (is_finished s) s
