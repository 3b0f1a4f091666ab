-- What a job has whose request admit takes. Assumes nothing.
use Rattle.std.specs.Prelude.{◌≡◌, refl, Bool, true, [], ◌∷◌, ◌++◌, ℕ, T}
use Rattle.std.proofs.Common.{subst}
use Rattle.lists.specs.Tab.{length-tab}
use Rattle.lists.specs.Refusals.{refusal, first_refusal, NoneOf, behind, none_of, none-front}
use Rattle.jobs.specs.declared.types.Job.{Job}
use Rattle.jobs.specs.declared.types.JobRequest.{JobRequest}
use Rattle.jobs.proofs.CheckLaws.{admitted-taken}
use Rattle.jobs.specs.Checks.{counts_wrong, admission_refusals, job_taken}
use Rattle.jobs.specs.Filled.{filled}
use Rattle.jobs.specs.Kept.{kept_job, job_from}
use Rattle.jobs.specs.Passed.{passed}
use Rattle.jobs.proofs.RecordLaws.{request-back, record-known}
use Rattle.jobs.specs.Records.{kind_of, record_of, known_kinds}
use Rattle.jobs.specs.RefusalLaws.{not-refused}
use Rattle.jobs.specs.Unused.{CleanRecord}
use Rattle.jobs.proofs.UnusedLaws.{record-clean}
use Rattle.runs.proofs.Admitted.{request-kept}
use Rattle.runs.proofs.RowLaws.{ReadBack}
use Rattle.runs.proofs.UnusedLaws.{Kept}
use Rattle.held.specs.RowBack.{FullJob}
use Rattle.bench.specs.Refusals.{no_place, admit_refusals}

-- A job as kept that admission to an empty place takes.
pub record Admissible (job : Job) : Type 0 where
  pub back : ReadBack job
  pub taken : job_taken job ≡ true
  pub kept : Kept job
  pub clean : CleanRecord (kind_of job) (record_of job)
  pub full : FullJob (record_of job)

-- admit's list is the job's, with the place behind the counts, and whether it is taken at the end
pub admit-list : (place : ℕ) (r : JobRequest) (b : Bool)
    → admit_refusals place r b ≡ refusal 1 (counts_wrong (filled r)) ∷ refusal 2 (no_place place) ∷ (behind 1 (admission_refusals r) ++ (refusal 10 b ∷ []))
admit-list place r b = refl

pub passed-request : (place : ℕ) (r : JobRequest) (b : Bool) → NoneOf (admit_refusals place r b) → first_refusal (admission_refusals r) ≡ 0
passed-request place r b n =
    (not-refused (filled r)).1 (
      none_of (admit_refusals place r b) 1 n,
      none-front (behind 1 (admission_refusals r)) (refusal 10 b ∷ []) (subst NoneOf (admit-list place r b) n).1.1,
    )

-- a job as kept has every entry
full-record : (j : Job) → FullJob (record_of (kept_job j))
full-record j = record { surfaces = length-tab _ 16; indices = length-tab _ 64; variables = length-tab _ 8; operands = length-tab _ 12 }

pub admissible : (r : JobRequest) → first_refusal (admission_refusals r) ≡ 0 → Admissible (job_from r)
admissible r e = record {
  back = request-back r;
  taken = admitted-taken r e;
  kept = request-kept r e;
  clean = record-clean (filled r);
  full = full-record (filled r);
}

-- its record holds known kinds
pub kinds-known : (job : Job) → Admissible job → T (known_kinds (record_of job))
kinds-known job a =
    let n = (passed job a.taken).counted in
    record-known job n.variables n.operands
