-- A row is damaged when one of these holds, and in no other case. Assumes nothing.
use Rattle.std.specs.Prelude.{◌≡◌, Bool, not, ◌&&◌, ◌||◌, ◌↔◌, ◌≢◌, ℕ, max, ◌≤◌, ◌<◌, eqb}
use Rattle.std.proofs.Math.Path.{refl}
use Rattle.std.proofs.Common.{sym, subst, arith, T_not, nltb→le, eqb→eq}
use Rattle.std.proofs.Math.Bool.{true, false}
use Rattle.std.proofs.Math.Dec.{T, ltb, ltb→lt}
use Rattle.std.specs.Float.Ieee.Fits.{and_l, and_r}
use Rattle.optics.specs.Check.{surfaces_taken}
use Rattle.variables.specs.Active.{num_active}
use Rattle.jobs.specs.declared.types.Method.{Method}
use Rattle.jobs.specs.Records.{known_kinds}
use Rattle.jobs.specs.Checks.{job_taken, record_taken}
use Rattle.runs.specs.declared.types.Row.{Row}
use Rattle.runs.specs.State.{State, state_of}
use Rattle.runs.specs.Rows.{job_of_row, is_finished, bound}
use Rattle.runs.specs.Damage.{is_kind, last_phase, is_phase, uses_current, uses_best, taken_if, up_to, surfaces_sound, counters_sound, iteration_limit}
use Rattle.runs.specs.Damage.{trial_limit}
use Rattle.runs.specs.Damage.{cycle_limit, step_limit, state_sound, job_sound, turns_sound, damaged}
use Rattle.runs.proofs.StateSound.{Sound, sound-from}
use Rattle.runs.proofs.DamageLaws.{parts, turns-part}

-- a joined test that fails, fails in a part
not-and : (a b : Bool) {X : Type 0} → (T (not a) → X) → (T (not b) → X) → T (not (a && b)) → X
not-and true b f g h = g h
not-and false b f g h = f tt

if-not : (used taken : Bool) {X : Type 0} → (T used → T (not taken) → X) → T (not (not used || taken)) → X
if-not true taken f h = f tt h
if-not false taken f h = absurd h

passed : (n k : ℕ) → T (not (up_to n k)) → n < k
passed n k h = go (ltb n k) refl h
  where
    go : (b : Bool) → ltb n k ≡ b → T (not (not b)) → n < k
    go true e t = ltb→lt n k (subst T (sym e) tt)
    go false e t = absurd t

module _ (r : Row) where
  abbrev m : Method
  m = (job_of_row r).method

  abbrev count : ℕ
  count = (job_of_row r).prescription.surface_count

  abbrev p : ℕ
  p = num_active (job_of_row r).variables

  abbrev s : State
  s = state_of r

  pub data Damage : Type 0 where
    -- (a) its kind is not 1, 2 or 3
    no_kind : r.kind ≢ 1 → r.kind ≢ 2 → r.kind ≢ 3 → Damage
    -- (b) its phase is not one of that kind's
    no_phase : last_phase m < r.damped.phase → Damage
    -- (c) the kept job would be refused, or holds a number that is no variable or operand kind
    refused_job : T (not (job_taken (job_of_row r))) → Damage
    refused_kinds : T (not (known_kinds r.job)) → Damage
    -- (d) surfaces in use are refused by 3
    refused_current : T (uses_current m (state_of r)) → T (not (surfaces_taken r.damped.surfaces count)) → Damage
    refused_best : T (uses_best m (state_of r)) → T (not (surfaces_taken r.best.surfaces count)) → Damage
    -- (e) a counter passes its limit
    column : num_active (job_of_row r).variables ≤ r.damped.column → Damage
    attempt : 10 < r.damped.attempt → Damage
    iteration : iteration_limit m < r.damped.iteration → Damage
    trial : trial_limit m < r.trial → Damage
    cycle : max (cycle_limit m) 1 ≤ r.cycle → Damage
    step : max (step_limit m) 1 ≤ r.step → Damage
    -- (f) unfinished with turns at the bound or above
    turns : is_finished r ≡ false → bound (job_of_row r) ≤ r.turns → Damage

  is-kind : T (is_kind r.kind) → r.kind ≢ 1 → r.kind ≢ 2 → r.kind ≢ 3 → ⊥
  is-kind h a b c =
      go (eqb r.kind 1) (eqb r.kind 2) (eqb r.kind 3) (λ t. a (eqb→eq r.kind 1 t)) (λ t. b (eqb→eq r.kind 2 t)) (λ t. c (eqb→eq r.kind 3 t)) h
    where
      go : (x y z : Bool) → (T x → ⊥) → (T y → ⊥) → (T z → ⊥) → T (x || y || z) → ⊥
      go true y z f g k h = f tt
      go false true z f g k h = g tt
      go false false true f g k h = k tt
      go false false false f g k h = h

  no_such_kind : T (not (is_kind r.kind)) → Damage
  no_such_kind h = no_kind (λ e. no 1 e tt) (λ e. no 2 e tt) (λ e. no 3 e tt)
    where
      no : (k : ℕ) → r.kind ≡ k → T (is_kind k) → ⊥
      no k e t = T_not (is_kind k) (subst (λ (n : ℕ). T (not (is_kind n))) e h) t

  below : (a b : ℕ) → a < b → b ≤ a → ⊥
  below a b h k = omega arith

  sound : damaged r ≡ false → Sound m (job_of_row r) (state_of r)
  sound h = sound-from m (job_of_row r) (state_of r) (parts r h).1

  -- the three tests of the kept job
  kinds : T (job_sound r) → T (is_kind r.kind) × T (job_taken (job_of_row r)) × T (known_kinds r.job)
  unfolding job_sound
  kinds h =
      let k = and_r (is_kind r.kind) (record_taken r.kind r.job) h in (
        and_l (is_kind r.kind) (record_taken r.kind r.job) h,
        and_l (job_taken (job_of_row r)) (known_kinds r.job) k,
        and_r (job_taken (job_of_row r)) (known_kinds r.job) k,
      )

  unfinished : is_finished r ≡ false → T (turns_sound r) → r.turns < bound (job_of_row r)
  unfolding turns_sound
  unfinished u t = ltb→lt r.turns (bound (job_of_row r)) (subst (λ (b : Bool). T (b || ltb r.turns (bound (job_of_row r)))) u t)

  -- an undamaged row has none of them
  none : damaged r ≡ false → Damage → ⊥
  none h (no_kind a b c) = is-kind (kinds (parts r h).0).0 a b c
  none h (no_phase l) = below (last_phase m) r.damped.phase l (sound h).phase_up_to
  none h (refused_job t) = T_not (job_taken (job_of_row r)) t (kinds (parts r h).0).1
  none h (refused_kinds t) = T_not (known_kinds r.job) t (kinds (parts r h).0).2
  none h (refused_current u t) = T_not (surfaces_taken r.damped.surfaces count) t ((sound h).current u)
  none h (refused_best u t) = T_not (surfaces_taken r.best.surfaces count) t ((sound h).best u)
  none h (column l) = below r.damped.column p (sound h).column_below l
  none h (attempt l) = below 10 r.damped.attempt l (sound h).attempt_up_to
  none h (iteration l) = below (iteration_limit m) r.damped.iteration l (sound h).iteration_up_to
  none h (trial l) = below (trial_limit m) r.trial l (sound h).trial_up_to
  none h (cycle l) = below r.cycle (max (cycle_limit m) 1) (sound h).cycle_below l
  none h (step l) = below r.step (max (step_limit m) 1) (sound h).step_below l
  none h (turns u l) = below r.turns (bound (job_of_row r)) (unfinished u (turns-part r h)) l

  -- ---- each test that fails is a cause
  cause-job : T (not (job_sound r)) → Damage
  unfolding job_sound
  cause-job =
      not-and (is_kind r.kind) (record_taken r.kind r.job) no_such_kind (not-and (job_taken (job_of_row r)) (known_kinds r.job) refused_job refused_kinds)

  cause-surfaces : T (not (surfaces_sound m count s)) → Damage
  unfolding surfaces_sound
  cause-surfaces =
      not-and (taken_if (uses_current m s) s.damped.surfaces count) (taken_if (uses_best m s) s.best.surfaces count)
      (if-not (uses_current m s) (surfaces_taken s.damped.surfaces count) refused_current)
      (if-not (uses_best m s) (surfaces_taken s.best.surfaces count) refused_best)

  cause-counters : T (not (counters_sound m p s)) → Damage
  unfolding counters_sound
  cause-counters =
      let c1 = ltb s.damped.column p in
      let c2 = up_to 10 s.damped.attempt in
      let c3 = up_to (iteration_limit m) s.damped.iteration in
      let c4 = up_to (trial_limit m) s.trial in
      let c5 = ltb s.cycle (max (cycle_limit m) 1) in
      let c6 = ltb s.step (max (step_limit m) 1) in
      not-and (c1 && c2 && c3 && c4 && c5) c6
      (not-and (c1 && c2 && c3 && c4) c5
      (not-and (c1 && c2 && c3) c4
      (not-and (c1 && c2) c3
      (not-and c1 c2 (λ t. column (nltb→le s.damped.column p t))
      (λ t. attempt (passed 10 s.damped.attempt t)))
      (λ t. iteration (passed (iteration_limit m) s.damped.iteration t)))
      (λ t. trial (passed (trial_limit m) s.trial t)))
      (λ t. cycle (nltb→le s.cycle (max (cycle_limit m) 1) t)))
      (λ t. step (nltb→le s.step (max (step_limit m) 1) t))

  cause-state : T (not (state_sound m (job_of_row r) s)) → Damage
  unfolding state_sound
  cause-state =
      not-and (is_phase m s.damped.phase && surfaces_sound m count s) (counters_sound m p s)
      (not-and (is_phase m s.damped.phase) (surfaces_sound m count s) (λ t. no_phase (passed (last_phase m) s.damped.phase t)) cause-surfaces)
      cause-counters

  cause-turns : T (not (turns_sound r)) → Damage
  unfolding turns_sound
  cause-turns h = go (is_finished r) refl h
    where
      go : (f : Bool) → is_finished r ≡ f → T (not (f || ltb r.turns (bound (job_of_row r)))) → Damage
      go true e t = absurd t
      go false e t = turns e (nltb→le r.turns (bound (job_of_row r)) t)

  cause : damaged r ≡ true → Damage
  unfolding damaged
  cause h =
      not-and (job_sound r && state_sound m (job_of_row r) s) (turns_sound r)
      (not-and (job_sound r) (state_sound m (job_of_row r) s) cause-job cause-state)
      cause-turns (subst T (sym h) tt)

  pub damaged-exactly : (damaged r ≡ true) ↔ Damage
  damaged-exactly = (cause, λ c. go (damaged r) refl c)
    where
      go : (b : Bool) → damaged r ≡ b → Damage → b ≡ true
      go true e c = refl
      go false e c = absurd (none e c)
