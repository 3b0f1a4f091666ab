-- Law 5: "a turn of any undamaged unfinished row gives an undamaged row, unless that one is unfinished with its turns at the bound"; rows reached from
-- admission are never damaged. Assumes nothing but what is named.
use Rattle.std.specs.Prelude.{◌≡◌, Bool, ◌&&◌, ◌||◌, ℕ, max, ◌<◌}
use Rattle.std.proofs.Math.Path.{refl, subst}
use Rattle.std.proofs.Common.{sym, ◌∙◌, arith, lt→ltb}
use Rattle.std.proofs.Math.Bool.{true, false}
use Rattle.std.proofs.Math.Nat.{le-max_right}
use Rattle.std.proofs.Math.Dec.{T, ltb}
use Rattle.std.specs.Float.Ieee.Bits.{is_true}
use Rattle.std.specs.Float.Ieee.Fits.{and_i, and_l, and_r}
use Rattle.lists.specs.Refusals.{let_through, not-refusing}
use Rattle.merit.specs.declared.types.MeritEvaluation.{MeritEvaluation}
use Rattle.jobs.specs.declared.types.Job.{Job}
use Rattle.jobs.specs.declared.types.Method.{Method}
use Rattle.jobs.specs.declared.types.Method.TheVariants.{Damped, MultiStart, Annealing}
use Rattle.jobs.specs.Records.{record_of, kind_of, known_kinds}
use Rattle.jobs.specs.Checks.{job_taken, record_taken}
use Rattle.runs.specs.declared.types.Row.{Row}
use Rattle.runs.specs.Run.{Surfaces}
use Rattle.runs.proofs.Usable.{Usable, usable}
use Rattle.runs.specs.State.{State, state_of}
use Rattle.runs.specs.DampedRow as DampedRow
use Rattle.runs.specs.Rows.{job_of_row, began, admitted, pending_surfaces, advance_by, advance, finished_by, is_finished, bound}
use Rattle.runs.specs.Damage.{is_kind, state_sound, job_sound, turns_sound, damaged}
use Rattle.runs.proofs.StateSound.{Sound, sound-from, sound-to}
use Rattle.runs.proofs.KindsSound.{damped-sound, multi-sound}
use Rattle.runs.proofs.AnnealingSound.{annealing-sound}
use Rattle.runs.proofs.RowLaws.{ReadBack, job-advance}
use Rattle.runs.specs.RowAfter.{turned, row_after}
use Rattle.runs.proofs.Turned.{reached, unfinished-below, turns-after, job-after}

-- ---- a turn
sound-by : (m : Method) (job : Job) → Usable job → (s : State) (e : MeritEvaluation) → finished_by m s ≡ false → Sound m job s
    → Sound m job (advance_by m job s e)
sound-by (Damped config) job k s e u h = damped-sound job k.applies k.based config s e u h
sound-by (MultiStart config) job k s e u h = multi-sound job k.applies k.based config s e u h
sound-by (Annealing config) job k s e u h = annealing-sound job k.applies config s e u h

-- all of the test but its turns
abbrev pub SoundRow : Row → Type 0
SoundRow r = T (job_sound r) × T (state_sound (job_of_row r).method (job_of_row r) (state_of r))

-- the job of an undamaged row would be admitted
pub undamaged-usable : (r : Row) → SoundRow r → Usable (job_of_row r)
unfolding job_sound
undamaged-usable r h =
    let taken = job_taken (job_of_row r) in
    usable (job_of_row r) (is_true taken (and_l taken (known_kinds r.job) (and_r (is_kind r.kind) (record_taken r.kind r.job) h.0)))

advance-sound : (r : Row) (e : MeritEvaluation) → is_finished r ≡ false → SoundRow r → SoundRow (advance r e)
unfolding is_finished advance job_sound
advance-sound r e u h =
    let m = (job_of_row r).method in
    let job = job_of_row r in
    (h.0, sound-to m job (advance_by m job (state_of r) e) (sound-by m job (undamaged-usable r h) (state_of r) e u (sound-from m job (state_of r) h.1)))

pub parts : (r : Row) → damaged r ≡ false → SoundRow r
unfolding damaged
parts r h =
    let j = job_sound r in
    let s = state_sound (job_of_row r).method (job_of_row r) (state_of r) in
    let t = and_l (j && s) (turns_sound r) (let_through (j && s && turns_sound r) h) in
    (and_l j s t, and_r j s t)

pub turns-part : (r : Row) → damaged r ≡ false → T (turns_sound r)
unfolding damaged
turns-part r h =
    let j = job_sound r in
    let s = state_sound (job_of_row r).method (job_of_row r) (state_of r) in
    and_r (j && s) (turns_sound r) (let_through (j && s && turns_sound r) h)

pub whole : (r : Row) → SoundRow r → T (turns_sound r) → damaged r ≡ false
unfolding damaged
whole r h t =
    let j = job_sound r in
    let s = state_sound (job_of_row r).method (job_of_row r) (state_of r) in
    not-refusing (j && s && turns_sound r) (and_i (j && s) (turns_sound r) (and_i j s h.0 h.1) t)

pub undamaged-advance : (r : Row) (e : MeritEvaluation) → damaged r ≡ false → is_finished r ≡ false → T (turns_sound (advance r e))
    → damaged (advance r e) ≡ false
undamaged-advance r e h u t = whole (advance r e) (advance-sound r e u (parts r h)) t

-- ---- admission
zero-below : (n : ℕ) → 0 < max n 1
zero-below n = le-max_right n 1

sound-began : (m : Method) (job : Job) → Usable job → Sound m job (began m job)
unfolding began finished_by DampedRow.is_finished DampedRow.finished_at DampedRow.phase_of
sound-began (Damped config) job k = record {
  phase_up_to = omega arith;
  current = λ u. k.based;
  best = λ u. absurd u;
  column_below = k.enabled;
  attempt_up_to = omega arith;
  iteration_up_to = omega arith;
  trial_up_to = omega arith;
  cycle_below = omega arith;
  step_below = omega arith;
}
sound-began (MultiStart config) job k = record {
  phase_up_to = omega arith;
  current = λ u. k.based;
  best = λ u. absurd u;
  column_below = k.enabled;
  attempt_up_to = omega arith;
  iteration_up_to = omega arith;
  trial_up_to = omega arith;
  cycle_below = omega arith;
  step_below = omega arith;
}
sound-began (Annealing config) job k = record {
  phase_up_to = omega arith;
  current = λ u. k.based;
  best = λ u. absurd u;
  column_below = k.enabled;
  attempt_up_to = omega arith;
  iteration_up_to = omega arith;
  trial_up_to = omega arith;
  cycle_below = zero-below config.max_cooling_cycles;
  step_below = zero-below config.steps_per_temperature;
}

kind-is : (job : Job) → T (is_kind (kind_of job))
kind-is job = go job.method
  where
    go : (m : Method) → T (is_kind (Rattle.jobs.specs.Records.method_kind m))
    go (Damped config) = tt
    go (MultiStart config) = tt
    go (Annealing config) = tt

admitted-sound : (job : Job) → ReadBack job → Usable job → T (record_taken (kind_of job) (record_of job)) → SoundRow (admitted job)
unfolding admitted job_sound
admitted-sound job back k taken = (
  and_i (is_kind (kind_of job)) (record_taken (kind_of job) (record_of job)) (kind-is job) taken,
  subst (λ (j : Job). T (state_sound j.method j (began job.method job))) (sym back)
      (sound-to job.method job (began job.method job) (sound-began job.method job k)),
)

-- ---- rows reached from admission are never damaged
module _ (f : Surfaces → MeritEvaluation) (job : Job) (back : ReadBack job) (k : Usable job) (taken : T (record_taken (kind_of job) (record_of job))) where
  sound-after : (n : ℕ) → SoundRow (row_after f n job)
  sound-after n = (reached f (λ (r : Row). (job_of_row r ≡ job) × SoundRow r) job (back', admitted-sound job back k taken) next n).1
    where
      back' : job_of_row (admitted job) ≡ job
      back' = Rattle.runs.proofs.RowLaws.job-admitted job back

      next : (r : Row) → is_finished r ≡ false → (job_of_row r ≡ job) × SoundRow r → (job_of_row (turned f r) ≡ job) × SoundRow (turned f r)
      next r u h = (job-advance r (f (pending_surfaces r)) ∙ h.0, advance-sound r (f (pending_surfaces r)) u h.1)

  turns-sound : (n : ℕ) → T (turns_sound (row_after f n job))
  unfolding turns_sound
  turns-sound n = go (is_finished (row_after f n job)) refl
    where
      go : (b : Bool) → is_finished (row_after f n job) ≡ b → T (b || ltb (row_after f n job).turns (bound (job_of_row (row_after f n job))))
      go true e = tt
      go false e =
          subst (λ (j : Job). T (ltb (row_after f n job).turns (bound j))) (sym (job-after f job back n))
          (subst (λ (t : ℕ). T (ltb t (bound job))) (sym (turns-after f job n e)) (lt→ltb n (bound job) (unfinished-below f job back n e)))

  pub never-damaged : (n : ℕ) → damaged (row_after f n job) ≡ false
  never-damaged n = whole (row_after f n job) (sound-after n) (turns-sound n)
