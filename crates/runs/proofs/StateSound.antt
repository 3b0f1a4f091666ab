-- The state of an undamaged row stays undamaged in a turn, for all three kinds. Assumes nothing but what is named.
use Rattle.std.specs.Prelude.{Bool, true, false, not, ◌&&◌, ◌||◌, ℕ, max, ◌≤◌, ◌<◌, T, ltb}
use Rattle.std.proofs.Common.{arith, lt→ltb}
use Rattle.std.proofs.Math.Dec.{ltb→lt, nltb→le, not_T}
use Rattle.std.specs.Float.Ieee.Fits.{and_i, and_l, and_r}
use Rattle.variables.specs.Active.{num_active}
use Rattle.jobs.specs.declared.types.Job.{Job}
use Rattle.jobs.specs.declared.types.Method.{Method}
use Rattle.optics.specs.Check.{surfaces_taken}
use Rattle.runs.specs.State.{State}
use Rattle.runs.specs.Damage.{last_phase, is_phase, uses_current, uses_best, taken_if, surfaces_sound, iteration_limit, trial_limit, cycle_limit, step_limit}
use Rattle.runs.specs.Damage.{up_to}
use Rattle.runs.specs.Damage.{counters_sound, state_sound}

-- ---- tests joined
if-used : (used taken : Bool) → T (not used || taken) → T used → T taken
if-used true taken h u = h
if-used false taken h u = absurd u

used-if : (used taken : Bool) → (T used → T taken) → T (not used || taken)
used-if true taken h = h tt
used-if false taken h = tt

up-to : (n k : ℕ) → k ≤ n → T (up_to n k)
up-to n k h = not_T (ltb n k) (λ t. no (ltb→lt n k t))
  where
    no : n < k → ⊥
    no l = omega arith

and-three : (a b c : Bool) → T (a && b && c) → T a × T b × T c
and-three true true true h = (tt, tt, tt)
and-three true true false h = absurd h
and-three true false c h = absurd h
and-three false b c h = absurd h

three-and : (a b c : Bool) → T a → T b → T c → T (a && b && c)
three-and a b c x y z = and_i (a && b) c (and_i a b x y) z

and-six : (a b c d e f : Bool) → T (a && b && c && d && e && f) → T a × T b × T c × T d × T e × T f
and-six a b c d e f h =
    let x = and-three (a && b && c && d) e f h in
    let y = and-three (a && b) c d x.0 in
    (and_l a b y.0, and_r a b y.0, y.1, y.2, x.1, x.2)

six-and : (a b c d e f : Bool) → T a → T b → T c → T d → T e → T f → T (a && b && c && d && e && f)
six-and a b c d e f x y z u v w = three-and (a && b && c && d) e f (three-and (a && b) c d (and_i a b x y) z u) v w

-- ---- The test in words
module _ (m : Method) (job : Job) where
  abbrev count : ℕ
  count = job.prescription.surface_count

  abbrev p : ℕ
  p = num_active job.variables

  pub record Sound (s : State) : Type 0 where
    pub phase_up_to : s.damped.phase ≤ last_phase m
    pub current : T (uses_current m s) → T (surfaces_taken s.damped.surfaces count)
    pub best : T (uses_best m s) → T (surfaces_taken s.best.surfaces count)
    pub column_below : s.damped.column < p
    pub attempt_up_to : s.damped.attempt ≤ 10
    pub iteration_up_to : s.damped.iteration ≤ iteration_limit m
    pub trial_up_to : s.trial ≤ trial_limit m
    pub cycle_below : s.cycle < max (cycle_limit m) 1
    pub step_below : s.step < max (step_limit m) 1

  -- the parts of the test
  abbrev current_test : State → Bool
  current_test s = taken_if (uses_current m s) s.damped.surfaces count

  abbrev best_test : State → Bool
  best_test s = taken_if (uses_best m s) s.best.surfaces count

  abbrev column_test : State → Bool
  column_test s = ltb s.damped.column p

  abbrev attempt_test : State → Bool
  attempt_test s = up_to 10 s.damped.attempt

  abbrev iteration_test : State → Bool
  iteration_test s = up_to (iteration_limit m) s.damped.iteration

  abbrev trial_test : State → Bool
  trial_test s = up_to (trial_limit m) s.trial

  abbrev cycle_test : State → Bool
  cycle_test s = ltb s.cycle (max (cycle_limit m) 1)

  abbrev step_test : State → Bool
  step_test s = ltb s.step (max (step_limit m) 1)

  pub sound-from : (s : State) → T (state_sound m job s) → Sound s
  unfolding state_sound surfaces_sound counters_sound
  sound-from s h =
      let t = and-three (is_phase m s.damped.phase) (surfaces_sound m count s) (counters_sound m p s) h in
      let k = and-six (column_test s) (attempt_test s) (iteration_test s) (trial_test s) (cycle_test s) (step_test s) t.2 in
      record {
        phase_up_to = nltb→le (last_phase m) s.damped.phase t.0;
        current = if-used (uses_current m s) (surfaces_taken s.damped.surfaces count) (and_l (current_test s) (best_test s) t.1);
        best = if-used (uses_best m s) (surfaces_taken s.best.surfaces count) (and_r (current_test s) (best_test s) t.1);
        column_below = ltb→lt s.damped.column p k.0;
        attempt_up_to = nltb→le 10 s.damped.attempt k.1;
        iteration_up_to = nltb→le (iteration_limit m) s.damped.iteration k.2;
        trial_up_to = nltb→le (trial_limit m) s.trial k.3;
        cycle_below = ltb→lt s.cycle (max (cycle_limit m) 1) k.4;
        step_below = ltb→lt s.step (max (step_limit m) 1) k.5;
      }

  pub sound-to : (s : State) → Sound s → T (state_sound m job s)
  unfolding state_sound surfaces_sound counters_sound
  sound-to s h =
      three-and (is_phase m s.damped.phase) (surfaces_sound m count s) (counters_sound m p s)
      (up-to (last_phase m) s.damped.phase h.phase_up_to)
      (and_i (current_test s) (best_test s) (used-if (uses_current m s) (surfaces_taken s.damped.surfaces count) h.current)
      (used-if (uses_best m s) (surfaces_taken s.best.surfaces count) h.best))
      (six-and (column_test s) (attempt_test s) (iteration_test s) (trial_test s) (cycle_test s) (step_test s) (lt→ltb s.damped.column p h.column_below)
      (up-to 10 s.damped.attempt h.attempt_up_to) (up-to (iteration_limit m) s.damped.iteration h.iteration_up_to)
      (up-to (trial_limit m) s.trial h.trial_up_to) (lt→ltb s.cycle (max (cycle_limit m) 1) h.cycle_below)
      (lt→ltb s.step (max (step_limit m) 1) h.step_below))
