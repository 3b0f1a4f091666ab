-- A request that is not refused makes a job for which the laws hold: it is read back from its row, and kept. Assumes nothing.
use Rattle.std.specs.Prelude.{◌≡◌, true, List, T, ltb, Float}
use Rattle.std.proofs.Math.Path.{refl}
use Rattle.std.proofs.Common.{◌∙◌, arith, ltb→lt, le-ltb}
use Prim.Native.Nat.{ℕ, zero, suc, ◌≤◌, ◌<◌}
use Rattle.std.proofs.Math.Seq.{get_or-set_other}
use Rattle.std.specs.Float.Ieee.{neg}
use Rattle.std.specs.Float.Ieee.Fits.{and_l}
use Rattle.lists.specs.Kept.{below, kept-unused}
use Rattle.lists.specs.Refusals.{first_refusal}
use Rattle.optics.specs.Types.{surface_at, no_surface, zero_surface}
use Rattle.variables.specs.declared.types.Follower.{Follower}
use Rattle.variables.specs.declared.types.Follower.TheVariants.{None, Plus, Minus}
use Rattle.variables.specs.declared.types.VariableSet.{VariableSet}
use Rattle.variables.specs.declared.types.VariableType.{VariableType}
use Rattle.variables.specs.Active.{num_active, active_at}
use Rattle.variables.specs.Kinds.{surface_index, put_at, put, followed}
use Rattle.variables.specs.Values.{stored_at, applied_to, applied}
use Rattle.variables.specs.Taken.{minus_taken, follower_taken}
use Rattle.variables.proofs.TakenLaws.{active-taken, active-follower}
use Rattle.jobs.specs.declared.types.Job.{Job}
use Rattle.jobs.specs.declared.types.JobRequest.{JobRequest}
use Rattle.jobs.specs.Checks.{admission_refusals, job_taken}
use Rattle.jobs.proofs.CheckLaws.{admitted-taken}
use Rattle.jobs.specs.Passed.{passed}
use Rattle.jobs.specs.Filled.{filled}
use Rattle.jobs.specs.Kept.{kept_job, job_from}
use Rattle.jobs.proofs.RecordLaws.{request-back}
use Rattle.runs.specs.Run.{Surfaces, after_merits}
use Rattle.runs.specs.JobRun.{base_of, run}
use Rattle.runs.specs.Resumption.{resumption}
use Rattle.runs.proofs.RowLaws.{ReadBack}
use Rattle.runs.specs.RowAfter.{row_after}
use Rattle.runs.proofs.Turned.{row-stands}
use Rattle.runs.specs.JobMerit.{evaluate_of}
use Rattle.runs.specs.Unused.{ZeroSurfaces}
use Rattle.runs.proofs.UnusedLaws.{Kept}

-- ---- a job that is taken
module _ (job : Job) (taken : job_taken job ≡ true) where
  abbrev count : ℕ
  count = job.prescription.surface_count

  abbrev v : VariableSet
  v = job.variables

  -- applying keeps to the job's surfaces
  applied-to-rest : (values : List Float) (x : Surfaces) (i n : ℕ) → n ≤ num_active v → count ≤ i → surface_at (applied_to v values x n) i ≡ surface_at x i
  unfolding applied_to
  applied-to-rest values x i zero h l = refl
  applied-to-rest values x i (suc n) h l =
      let kind = (active_at v n).var_type in
      let value = stored_at v values n in
      let before = applied_to v values x n in
      followed-rest (put before kind value) kind (active_at v n).follower value (active-follower count v (passed job taken).followers n h)
      ∙ put_rest before (surface_index kind) kind value (active-taken count v (passed job taken).variables n h).present
      ∙ applied-to-rest values x i n (omega arith) l
    where
      put_rest : (s : Surfaces) (k : ℕ) (kind : VariableType) (y : Float) → k < count → surface_at (put_at s k kind y) i ≡ surface_at s i
      put_rest s k kind y b = get_or-set_other s k i _ no_surface (omega arith)

      followed-rest : (s : Surfaces) (kind : VariableType) (f : Follower) (y : Float) → T (follower_taken count kind f)
          → surface_at (followed s kind f y) i ≡ surface_at s i
      followed-rest s kind None y t = refl
      followed-rest s kind (Plus k) y t = put_rest s k kind y (ltb→lt k count t)
      followed-rest s kind (Minus k) y t = put_rest s k kind (neg y) (ltb→lt k count (and_l (ltb k count) (minus_taken kind) t))

  applied-rest : (values : List Float) (x : Surfaces) (i : ℕ) → count ≤ i → surface_at (applied v values x) i ≡ surface_at x i
  unfolding applied
  applied-rest values x i l = applied-to-rest values x i (num_active v) (omega arith) l

-- ---- a job as kept holds nothing past its surfaces
kept-surfaces : (j : Job) → ZeroSurfaces j.prescription.surface_count (base_of (kept_job j))
kept-surfaces j i l b = kept-unused (below j.prescription.surface_count) _ zero_surface 16 i no_surface b (le-ltb i j.prescription.surface_count l)

pub kept-job : (j : Job) → job_taken (kept_job j) ≡ true → Kept (kept_job j)
kept-job j taken = record {
  applies = λ values x h i l b. applied-rest (kept_job j) taken values x i l ∙ h i l b;
  based = kept-surfaces j;
  fits = (passed (kept_job j) taken).counted.operands;
}

-- ---- a request that is not refused
module _ (r : JobRequest) (admissible : first_refusal (admission_refusals r) ≡ 0) where
  reads-back : ReadBack (job_from r)
  reads-back = request-back r

  pub request-kept : Kept (job_from r)
  request-kept = kept-job (filled r) (admitted-taken r admissible)

  -- its row stands where its run stands after as many merits
  pub request-stands : (k : ℕ) → resumption (row_after (evaluate_of (job_from r)) k (job_from r)) ≡ after_merits (evaluate_of (job_from r)) k (run (job_from r))
  request-stands = row-stands (evaluate_of (job_from r)) (job_from r) reads-back
