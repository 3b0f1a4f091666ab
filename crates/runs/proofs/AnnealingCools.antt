-- What annealing's walk draws for acceptance, and how it cools: nothing else in `runs` says it, since the run and the row share the step. Assumes nothing.
use Rattle.std.specs.Prelude.{◌≡◌, Bool, List, ltb, Float}
use Rattle.std.proofs.Math.Path.{refl, ap}
use Rattle.std.proofs.Common.{◌∙◌}
use Rattle.std.proofs.Math.Bool.{true, false, cond}
use Prim.Native.Nat.{ℕ, zero, suc}
use Rattle.std.specs.Float.Ieee.{binary64, lt, le, sub, mul}
use Rattle.floats.specs.Constants.{zero64}
use Rattle.xorshift.specs.Xorshift.{step_of}
use Rattle.merit.specs.declared.types.MeritEvaluation.{MeritEvaluation}
use Rattle.runs.specs.Run.{Surfaces, bind, value, value-bind}
use Rattle.runs.specs.AnnealingRun.{Annealer, Walk, with_rng, cooled, if_best, trial_params, after_draws, trial_presc, moved, accepted, if_drawn}
use Rattle.runs.specs.AnnealingRun.{if_not_risen, judged, tried, steps, cycles}
use Rattle.runs.specs.AnnealingRow.{walk_first, walk, walk_of, is_cycle, resume_cycles, resume_steps, advance_at}
use Rattle.runs.specs.State.{State}

-- a temperature after n cycles: multiplied by the rate after each
abbrev pub cooled_times : (rate : Float) (n : ℕ) → Float → Float
cooled_times rate zero t = t
cooled_times rate (suc n) t = cooled_times rate n (mul binary64 t rate)

module _ (a : Annealer) where
  -- ---- One step
  accepted-keeps : (trial : List Float) (x : Float) (w : Walk) → ((accepted a trial x w).rng ≡ w.rng) × ((accepted a trial x w).temp ≡ w.temp)
  unfolding accepted if_best
  accepted-keeps trial x w = go (lt x w.best_merit)
    where
      go : (b : Bool) → ((if_best b (moved a trial x w)).rng ≡ w.rng) × ((if_best b (moved a trial x w)).temp ≡ w.temp)
      go true = (refl, refl)
      go false = (refl, refl)

  drawn-keeps : (b : Bool) (trial : List Float) (x : Float) (w : Walk) → ((if_drawn a b trial x w).rng ≡ w.rng) × ((if_drawn a b trial x w).temp ≡ w.temp)
  unfolding if_drawn
  drawn-keeps true trial x w = accepted-keeps trial x w
  drawn-keeps false trial x w = (refl, refl)

  abbrev not_risen : MeritEvaluation → Walk → Bool
  not_risen e w = le (sub binary64 e.total_merit w.current_merit) zero64

  judged-keeps : (trial : List Float) (e : MeritEvaluation) (w : Walk)
      → ((judged a trial e w).rng ≡ cond (not_risen e w) w.rng (step_of w.rng)) × ((judged a trial e w).temp ≡ w.temp)
  unfolding judged if_not_risen
  judged-keeps trial e w = go (sub binary64 e.total_merit w.current_merit) (not_risen e w)
    where
      go : (delta : Float) (b : Bool) → ((if_not_risen a b trial e.total_merit delta w).rng ≡ cond b w.rng (step_of w.rng))
          × ((if_not_risen a b trial e.total_merit delta w).temp ≡ w.temp)
      go delta true = accepted-keeps trial e.total_merit w
      go delta false = drawn-keeps _ trial e.total_merit (with_rng w (step_of w.rng))

  -- "Annealing draws for acceptance only when the merit rose": once then, and else not at all
  pub draws-when-risen : (trial : List Float) (e : MeritEvaluation) (w : Walk) → (judged a trial e w).rng ≡ cond (not_risen e w) w.rng (step_of w.rng)
  draws-when-risen trial e w = (judged-keeps trial e w).0

  -- ---- Steps and cycles
  module _ (f : Surfaces → MeritEvaluation) where
    steps-keep : (left : ℕ) (w : Walk) → (value f (steps a left w)).temp ≡ w.temp
    unfolding steps tried bind value after_draws
    steps-keep zero w = refl
    steps-keep (suc left) w =
        let w' = after_draws a w in
        steps-keep left (judged a (trial_params a w) (f (trial_presc a (trial_params a w) w')) w')
        ∙ (judged-keeps (trial_params a w) (f (trial_presc a (trial_params a w) w')) w').1

    -- what n cycles leave
    pub walk-cools : (n : ℕ) (w : Walk) → (value f (cycles a n w)).temp ≡ cooled_times a.config.cooling_rate n w.temp
    unfolding cycles value
    walk-cools zero w = refl
    walk-cools (suc n) w =
        let k = a.config.steps_per_temperature in
        let rate = a.config.cooling_rate in
        let e : value f (cycles a (suc n) w) ≡ value f (cycles a n (cooled rate (value f (steps a k w)))) = value-bind f (steps a k w) _ in
        ap (λ (v : Walk). v.temp) e
        ∙ walk-cools n (cooled rate (value f (steps a k w)))
        ∙ ap (λ (t : Float). cooled_times rate n (mul binary64 t rate)) (steps-keep k w)

  -- ---- The row: the first cycle has the settings' temperature, a step keeps it, and the last of a cycle cools it (`temp *= cooling_rate`)
  abbrev is_step : (k : ℕ) → Bool
  is_step k = ltb k a.config.steps_per_temperature

  pub first-temperature : (s : State) (e : MeritEvaluation) → is_cycle a 0 ≡ true → (advance_at a walk_first s e).temperature ≡ a.config.initial_temperature
  unfolding advance_at resume_cycles after_draws
  first-temperature s e h = rw h

  pub kept-temperature : (s : State) (e : MeritEvaluation) → is_step (suc s.step) ≡ true → (advance_at a walk s e).temperature ≡ s.temperature
  unfolding advance_at resume_steps after_draws
  kept-temperature s e h = rw h (judged-keeps s.damped.candidate e (walk_of s)).1

  pub cooled-temperature : (s : State) (e : MeritEvaluation) → is_step (suc s.step) ≡ false → is_cycle a (suc s.cycle) ≡ true
      → (advance_at a walk s e).temperature ≡ mul binary64 s.temperature a.config.cooling_rate
  unfolding advance_at resume_steps resume_cycles after_draws
  cooled-temperature s e h c =
      rw (h, c) (ap (λ (t : Float). mul binary64 t a.config.cooling_rate) (judged-keeps s.damped.candidate e (walk_of s)).1)
