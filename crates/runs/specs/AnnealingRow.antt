-- An annealing run between two merits: its walk, and then the damped run of its polish. No evaluation and no trace stands in this file. Definitions only.
use Rattle.std.specs.Prelude.{ℕ, zero, suc, ◌-◌, Bool, true, false, ◌&&◌, List, ltb, Float}
use Rattle.floats.specs.Constants.{zero64}
use Rattle.merit.specs.declared.types.MeritEvaluation.{MeritEvaluation}
use Rattle.runs.specs.declared.types.DampedState.{DampedState}
use Rattle.runs.specs.declared.types.OptimizationResult.{OptimizationResult}
use Rattle.runs.specs.Run.{Surfaces, Run, done, ask, ◌>>=◌}
use Rattle.runs.specs.Zeros.{zero_surfaces, zero_operands, zero_params}
use Rattle.runs.specs.AnnealingRun.{Annealer, Walk, cooled, trial_params, after_draws, trial_presc, judged, steps, cycles, started, polisher, with_prior}
use Rattle.runs.specs.AnnealingRun.{polish}
use Rattle.runs.specs.DampedRow.{holding, at_first}
use Rattle.runs.specs.DampedRow as Damped
use Rattle.runs.specs.DampedResumption as Damped'
use Rattle.runs.specs.State.{State, with_best, alone, with_damped}

-- Just before the walk's first merit, before a step's, or in the polish, whose phases are the damped run's.
pub data Phase : Type 0 where
  walk_first walk polishing : Phase

unfoldable pub phase_of : ℕ → Phase
phase_of zero = polishing
phase_of (suc zero) = polishing
phase_of (suc (suc zero)) = polishing
phase_of (suc (suc (suc zero))) = polishing
phase_of (suc (suc (suc (suc zero)))) = polishing
phase_of (suc (suc (suc (suc (suc zero))))) = walk_first
phase_of (suc (suc (suc (suc (suc (suc zero)))))) = walk
phase_of (suc (suc (suc (suc (suc (suc (suc n))))))) = polishing

-- what the walk's loops hold, read off the row; the generator stands after the step's draws
abbrev pub walk_of : State → Walk
walk_of s = record {
  surfaces = s.damped.surfaces;
  params = s.damped.params;
  current_merit = s.current_merit;
  best_surfaces = s.best.surfaces;
  best_merit = s.best.final_merit;
  rng = s.generator;
  temp = s.temperature;
}

-- ---- Each phase's state: what the phase does not use is zero
-- the damped part in the walk
abbrev pub walking : (phase : ℕ) (surfaces : Surfaces) (params trial : List Float) → DampedState
walking n surfaces params trial = holding n surfaces params trial

-- the best part in the walk, and in the polish, which needs the first merit alone
abbrev pub kept : (surfaces : Surfaces) (initial_merit best_merit : Float) → OptimizationResult
kept surfaces initial_merit best_merit = record {
  surfaces = surfaces;
  values = zero_operands;
  residuals = zero_operands;
  initial_merit = initial_merit;
  final_merit = best_merit;
  iterations = 0;
  converged = 0;
}

abbrev pub at_walk_first : (base : Surfaces) → State
at_walk_first base = alone (walking 5 base zero_params zero_params)

abbrev pub at_walk : (initial_merit : Float) → Walk → (trial : List Float) (cycle step : ℕ) → State
at_walk initial_merit w trial c k = record {
  damped = walking 6 w.surfaces w.params trial;
  best = kept w.best_surfaces initial_merit w.best_merit;
  generator = w.rng;
  trial = 0;
  cycle = c;
  step = k;
  temperature = w.temp;
  current_merit = w.current_merit;
}

abbrev pub at_polish : (initial_merit : Float) → DampedState → State
at_polish initial_merit d = with_best d (kept zero_surfaces initial_merit zero64)

module _ (a : Annealer) where
  -- ---- From where a loop is entered to just before the next merit
  -- step k of cycle c, with its draws made
  abbrev pub at_step : (initial_merit : Float) → Walk → (c k : ℕ) → State
  at_step initial_merit w c k = at_walk initial_merit (after_draws a w) (trial_params a w) c k

  -- whether there is a cycle c, and a step in it
  abbrev pub is_cycle : (c : ℕ) → Bool
  is_cycle c = ltb c a.config.max_cooling_cycles && ltb 0 a.config.steps_per_temperature

  unfoldable pub resume_cycles : Bool → (initial_merit : Float) → Walk → (c : ℕ) → State
  resume_cycles true initial_merit w c = at_step initial_merit w c 0
  resume_cycles false initial_merit w c = at_polish initial_merit (at_first w.best_surfaces)

  -- whether there is a step k; behind the last one the temperature is cooled
  unfoldable pub resume_steps : Bool → (initial_merit : Float) → Walk → (c k : ℕ) → State
  resume_steps true initial_merit w c k = at_step initial_merit w c k
  resume_steps false initial_merit w c k = resume_cycles (is_cycle (suc c)) initial_merit (cooled a.config.cooling_rate w) (suc c)

  -- ---- The surfaces whose merit comes next, and the state after that merit
  unfoldable pub pending_at : Phase → State → Surfaces
  pending_at walk_first s = s.damped.surfaces
  pending_at walk s = trial_presc a s.damped.candidate (walk_of s)
  pending_at polishing s = Damped.pending (polisher a) s.damped

  unfoldable pub advance_at : Phase → State → MeritEvaluation → State
  advance_at walk_first s e = resume_cycles (is_cycle 0) e.total_merit (started a s.damped.surfaces e) 0
  advance_at walk s e =
      resume_steps (ltb (suc s.step) a.config.steps_per_temperature) s.best.initial_merit (judged a s.damped.candidate e (walk_of s))
      s.cycle (suc s.step)
  advance_at polishing s e = with_damped s (Damped.advance (polisher a) s.damped e)

  unfoldable pub pending : State → Surfaces
  pending s = pending_at (phase_of s.damped.phase) s

  unfoldable pub advance : State → MeritEvaluation → State
  advance s e = advance_at (phase_of s.damped.phase) s e

  -- ---- what is left of the run
  -- after the walk
  abbrev pub polished : (initial_merit : Float) → Walk → Run OptimizationResult
  polished initial_merit end = polish a initial_merit end.best_surfaces

  abbrev pub result_of : State → OptimizationResult
  result_of s = with_prior a s.best.initial_merit (Damped.result_of s.damped)

  unfoldable pub resumption_at : Phase → State → Run OptimizationResult
  resumption_at walk_first s = ask s.damped.surfaces λ current_eval. do
    end ← cycles a a.config.max_cooling_cycles (started a s.damped.surfaces current_eval)
    polished current_eval.total_merit end
  resumption_at walk s = ask (trial_presc a s.damped.candidate (walk_of s)) λ trial_eval. do
    w' ← steps a (a.config.steps_per_temperature - suc s.step) (judged a s.damped.candidate trial_eval (walk_of s))
    end ← cycles a (a.config.max_cooling_cycles - suc s.cycle) (cooled a.config.cooling_rate w')
    polished s.best.initial_merit end
  resumption_at polishing s = do
    result ← Damped'.resumption (polisher a) s.damped
    done (with_prior a s.best.initial_merit result)

  unfoldable pub resumption : State → Run OptimizationResult
  resumption s = resumption_at (phase_of s.damped.phase) s

unfoldable pub finished_at : Phase → State → Bool
finished_at walk_first s = false
finished_at walk s = false
finished_at polishing s = Damped.is_finished s.damped

unfoldable pub is_finished : State → Bool
is_finished s = finished_at (phase_of s.damped.phase) s
