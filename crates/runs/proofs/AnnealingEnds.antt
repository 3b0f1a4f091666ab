-- How long an annealing run takes, and what holds at its end, given that of its polish. Assumes nothing.
use Rattle.std.specs.Prelude.{Bool, List, Float}
use Rattle.std.proofs.Math.Bool.{true, false}
use Prim.Native.Nat.{ℕ, zero, suc, ◌+◌, ◌*◌}
use Rattle.std.proofs.Common.{arith}
use Rattle.std.specs.Float.Ieee.{binary64, sub, lt, le}
use Rattle.floats.specs.Constants.{zero64}
use Rattle.xorshift.specs.Xorshift.{step_of}
use Rattle.xorshift.specs.Draws.{unit_of}
use Rattle.merit.specs.declared.types.MeritEvaluation.{MeritEvaluation}
use Rattle.runs.specs.declared.types.OptimizationResult.{OptimizationResult}
use Rattle.runs.specs.Run.{Surfaces, bind}
use Rattle.runs.proofs.Ends.{Ends, now, later, Ends-more, Ends-bind}
use Rattle.runs.specs.DampedRun.{damped}
use Rattle.runs.specs.AnnealingRun.{Annealer, Walk, with_rng, cooled, if_best, prob, trial_params, after_draws, trial_presc, moved, accepted, if_drawn}
use Rattle.runs.specs.AnnealingRun.{if_not_risen, judged, tried, steps, cycles, started, polisher, with_prior, polish, annealing}

-- ---- What the surfaces of the walk, current and best, keep
module _ (a : Annealer) (Sound : Surfaces → Type 0) (tries : (trial : List Float) (w : Walk) → Sound w.surfaces → Sound (trial_presc a trial w)) where
  abbrev pub SoundWalk : Walk → Type 0
  SoundWalk w = Sound w.surfaces × Sound w.best_surfaces

  sound-best : (b : Bool) (w : Walk) → SoundWalk w → SoundWalk (if_best b w)
  unfolding if_best
  sound-best true w h = (h.0, h.0)
  sound-best false w h = h

  sound-accepted : (trial : List Float) (x : Float) (w : Walk) → SoundWalk w → SoundWalk (accepted a trial x w)
  unfolding accepted
  sound-accepted trial x w h = sound-best _ (moved a trial x w) (tries trial w h.0, h.1)

  sound-drawn : (b : Bool) (trial : List Float) (x : Float) (w : Walk) → SoundWalk w → SoundWalk (if_drawn a b trial x w)
  unfolding if_drawn
  sound-drawn true trial x w h = sound-accepted trial x w h
  sound-drawn false trial x w h = h

  sound-risen : (b : Bool) (trial : List Float) (x delta : Float) (w : Walk) → SoundWalk w → SoundWalk (if_not_risen a b trial x delta w)
  unfolding if_not_risen
  sound-risen true trial x delta w h = sound-accepted trial x w h
  sound-risen false trial x delta w h = sound-drawn (lt (unit_of (step_of w.rng)) (prob delta w.temp)) trial x (with_rng w (step_of w.rng)) h

  pub sound-judged : (trial : List Float) (e : MeritEvaluation) (w : Walk) → SoundWalk w → SoundWalk (judged a trial e w)
  unfolding judged
  sound-judged trial e w h =
      let delta = sub binary64 e.total_merit w.current_merit in
      sound-risen (le delta zero64) trial e.total_merit delta w h

-- ---- How long it takes
module _ (a : Annealer) (Q : Surfaces → MeritEvaluation → Type 0) (Sound : Surfaces → Type 0) (P : OptimizationResult → Type 0) (B : ℕ)
    (tries : (trial : List Float) (w : Walk) → Sound w.surfaces → Sound (trial_presc a trial w))
    (polishes : (presc : Surfaces) → Sound presc → Ends Q P B (damped (polisher a) presc))
    (priors : (initial_merit : Float) (r : OptimizationResult) → P r → P (with_prior a initial_merit r)) where
  abbrev Kept : Walk → Type 0
  Kept w = SoundWalk a Sound tries w

  ends-steps : (left : ℕ) (w : Walk) → Kept w → Ends Q Kept left (steps a left w)
  unfolding steps tried after_draws bind
  ends-steps zero w h = now h
  ends-steps (suc left) w h =
      later {n = left} {m = suc left} (omega arith) λ e q.
      ends-steps left (judged a (trial_params a w) e (after_draws a w)) (sound-judged a Sound tries (trial_params a w) e (after_draws a w) h)

  ends-cycles : (left : ℕ) (w : Walk) → Kept w → Ends Q Kept (left * a.config.steps_per_temperature) (cycles a left w)
  unfolding cycles
  ends-cycles zero w h = now h
  ends-cycles (suc left) w h =
      let k = a.config.steps_per_temperature in
      Ends-more (suc left * k) (omega arith) (Ends-bind (left * k) _ (ends-steps k w h) λ w' h'. ends-cycles left (cooled a.config.cooling_rate w') h')

  pub ends-annealing : (base : Surfaces) → Sound base
      → Ends Q P (1 + (a.config.max_cooling_cycles * a.config.steps_per_temperature + B)) (annealing a base)
  unfolding annealing polish bind
  ends-annealing base h =
      let n = a.config.max_cooling_cycles * a.config.steps_per_temperature in
      later {n = n + (B + 0)} {m = 1 + (n + B)} (omega arith) λ e q.
      Ends-bind (B + 0) _ (ends-cycles a.config.max_cooling_cycles (started a base e) (h, h)) λ w g.
      Ends-bind 0 _ (polishes w.best_surfaces g.1) λ r t. now (priors e.total_merit r t)
