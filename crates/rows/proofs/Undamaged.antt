-- What a row that is not damaged has. Assumes nothing.
use mathlib.Core.Path.{◌≡◌}
use mathlib.Core.Bool.{Bool, true, false, ◌||◌, true≢false}
use Prim.Native.Nat.{ℕ, ◌+◌, ◌*◌, ◌≤◌, ◌<◌}
use native.Mathlib.Nat.{mul-le-mul}
use native.Mathlib.Omega.{arith}
use lib.Dec.{T, ltb, ltb→lt}
use lib.Ieee.Bits.{is_true}
use lib.Ieee.Fits.{and_l, and_r}
use Rattle.variables.specs.Active.{num_active}
use Rattle.variables.proofs.CallerLaws.{active-le}
use Rattle.jobs.specs.declared.types.Method.{Method}
use Rattle.jobs.specs.declared.types.Method.TheVariants.{Damped, MultiStart, Annealing}
use Rattle.jobs.specs.Checks.{job_taken, record_taken}
use Rattle.jobs.specs.Records.{known_kinds}
use Rattle.runs.specs.declared.types.Row.{Row}
use Rattle.runs.specs.State.{state_of}
use Rattle.runs.specs.Rows.{job_of_row, is_finished, bound_by, bound}
use Rattle.runs.specs.Damage.{is_kind, iteration_limit, job_sound, turns_sound, damaged}
use Rattle.runs.proofs.DamageLaws.{parts, turns-part}
use Rattle.runs.proofs.StateSound.{Sound, sound-from}
use Rattle.kinds.specs.Limits.{CountsWithin, Within, taken-within}
use Rattle.kinds.proofs.Iteration.{iteration-le}

-- ---- limits of the counts that are taken
limit-le : (m : Method) → CountsWithin m → iteration_limit m ≤ 1000
limit-le (Damped config) h = h
limit-le (MultiStart config) h = h.0
limit-le (Annealing config) h = omega arith

-- (1 + 1000) × (1 + 1000 × 26)
bound-le : (m : Method) (p : ℕ) → CountsWithin m → p ≤ 8 → bound_by m p ≤ 26027001
unfolding bound_by
bound-le (Damped config) p h l = omega (arith, mul-le-mul h (iteration-le p l))
bound-le (MultiStart config) p h l =
    let trials : 1 + config.num_trials ≤ 1001 = omega (arith, h.1) in
    let each : 1 + config.local_dls_config.max_iterations * (2 * p + 10) ≤ 26001 = omega (arith, mul-le-mul h.0 (iteration-le p l)) in
    omega (arith, mul-le-mul trials each)
bound-le (Annealing config) p h l = omega (arith, mul-le-mul h.0 h.1, iteration-le p l)

unless : (finished below : Bool) → finished ≡ false → T (finished || below) → T below
unless true below e t = absurd (true≢false e)
unless false below e t = t

module _ (r : Row) (ok : damaged r ≡ false) where
  pub job-taken : job_taken (job_of_row r) ≡ true
  unfolding job_sound
  job-taken =
      is_true (job_taken (job_of_row r)) (and_l (job_taken (job_of_row r)) (known_kinds r.job) (and_r (is_kind r.kind) (record_taken r.kind r.job)
      (parts r ok).0))

  within : Within (job_of_row r)
  within = taken-within (job_of_row r) job-taken

  sound : Sound (job_of_row r).method (job_of_row r) (state_of r)
  sound = sound-from (job_of_row r).method (job_of_row r) (state_of r) (parts r ok).1

  pub column-below : r.damped.column < num_active (job_of_row r).variables
  column-below = sound.column_below

  pub result-within : CountsWithin (job_of_row r).method × (r.damped.iteration ≤ 1000)
  result-within = (within.counts, omega (arith, sound.iteration_up_to, limit-le (job_of_row r).method within.counts))

  pub turns-below : is_finished r ≡ false → r.turns < 26027001
  unfolding turns_sound bound
  turns-below u =
      let p = num_active (job_of_row r).variables in
      let few : p ≤ 8 = omega (arith, active-le (job_of_row r).variables, within.variables) in
      let below = ltb→lt r.turns (bound (job_of_row r)) (unless (is_finished r) (ltb r.turns (bound (job_of_row r))) u (turns-part r ok)) in
      omega (arith, below, bound-le (job_of_row r).method p within.counts few)
