-- Each request is asked for by a record: the record of its job, with every setting given, makes the same job and is answered alike. Assumes nothing.
use Rattle.std.specs.Prelude.{◌≡◌, refl, Bool, true, false, not, cond, ◌&&◌, List, [], ◌∷◌, ◌++◌, ℕ, zero, suc, T, eqb, get_or, drop}
use Rattle.std.proofs.Common.{sym, ap, ◌∙◌, true≢false}
use Rattle.std.proofs.lemmas.Bool.{false≢true}
use Rattle.std.specs.Float.{nan}
use Rattle.std.specs.Float.Ieee.Bits.{is_true}
use Rattle.std.specs.Float.Ieee.Fits.{and_l, and_r}
use borrow.Author.Tests.{le-ltb}
use Rattle.floats.specs.Constants.{zero64}
use Rattle.lists.specs.Kept.{kept, below, kept-used, kept_same}
use Rattle.lists.specs.Refusals.{Refusal, refusal, first_refusal}
use Rattle.optics.specs.Kept.{index_used}
use Rattle.optics.specs.Types.{no_surface, zero_surface}
use Rattle.variables.specs.Active.{no_variable}
use Rattle.merit.specs.OperandTable.{no_operand as past_operand}
use Rattle.jobs.specs.declared.types.Job.{Job}
use Rattle.jobs.specs.declared.types.JobRequest.{JobRequest}
use Rattle.jobs.specs.declared.types.Method.{Method}
use Rattle.jobs.specs.declared.types.Method.TheVariants.{Damped, MultiStart, Annealing}
use Rattle.jobs.specs.declared.types.MethodRequest.TheVariants as Ask
use Rattle.jobs.specs.declared.types.SettingsRecord.{SettingsRecord}
use Rattle.jobs.proofs.CheckLaws.{one_answer}
use Rattle.jobs.specs.Checks.{counts_taken, counts_wrong, job_refusals}
use Rattle.jobs.specs.Counts.{Counts, counts}
use Rattle.jobs.specs.Filled.{method_of, filled}
use Rattle.jobs.specs.Kept.{zero_variable, zero_operand, kept_job, job_from}
use Rattle.jobs.proofs.RecordLaws.{request-back, record-known}
use Rattle.jobs.specs.Records.{method_kind, dls_config, multi_start_config, annealing_config, method, record_of, job_of, known_kinds}
use Rattle.runs.specs.Damage.{is_kind}
use Rattle.bench.specs.Refusals.{no_place, admit_refusals}
use Rattle.records.specs.declared.types.RequestRecord.{RequestRecord}
use Rattle.records.specs.Requests.{dls_request, multi_start_request, annealing_request, method_request, request_of, all_given, is_request}
use Rattle.records.specs.Exported.{record_for}

-- ---- what is kept is kept as it is
kept_again : {A : Type 0} (used : ℕ → Bool) (l : List A) (d z : A) (n : ℕ) →
    kept used (λ (i : ℕ). get_or (kept used (λ (k : ℕ). get_or l k d) z n) i d) z n ≡ kept used (λ (k : ℕ). get_or l k d) z n
kept_again used l d z n = kept_same used _ _ z n (λ i h u. kept-used used _ z n i d h u)

job-again : (j : Job) → kept_job (kept_job j) ≡ kept_job j
job-again j = λ i. record {
  prescription = record {
    surfaces = kept_again (below j.prescription.surface_count) j.prescription.surfaces no_surface zero_surface 16 i;
    indices = kept_again (index_used j.prescription.surface_count j.prescription.slot_count) j.prescription.indices nan zero64 64 i;
    surface_count = j.prescription.surface_count;
    slot_count = j.prescription.slot_count;
    entrance_pupil_diameter_mm = j.prescription.entrance_pupil_diameter_mm;
  };
  variables = record {
    variables = kept_again (below j.variables.variable_count) j.variables.variables no_variable zero_variable 8 i;
    variable_count = j.variables.variable_count;
  };
  merit_function = record {
    operands = kept_again (below j.merit_function.operand_count) j.merit_function.operands past_operand zero_operand 12 i;
    operand_count = j.merit_function.operand_count;
  };
  method = j.method;
}

-- ---- a record that gives every setting asks for the job that it holds
all-given : (kind : ℕ) (s : SettingsRecord) → method_of (method_request kind s all_given) ≡ method kind s
unfolding method_request method
all-given kind s = by (eqb kind 1) (eqb kind 2)
  where
    by : (one two : Bool) →
        method_of
        (cond one (Ask.Damped (dls_request s all_given))
        (cond two (Ask.MultiStart (multi_start_request s all_given)) (Ask.Annealing (annealing_request s all_given))))
        ≡ cond one (Damped (dls_config s)) (cond two (MultiStart (multi_start_config s)) (Annealing (annealing_config s)))
    by true two = refl
    by false true = refl
    by false false = refl

holds-job : (q : RequestRecord) → q.given ≡ all_given → filled (request_of q) ≡ job_of q.kind q.job
unfolding request_of
holds-job q e = λ i. record {
  prescription = (job_of q.kind q.job).prescription;
  variables = (job_of q.kind q.job).variables;
  merit_function = (job_of q.kind q.job).merit_function;
  method = (ap (λ (given : ℕ). method_of (method_request q.kind q.job.settings given)) e ∙ all-given q.kind q.job.settings) i;
}

module _ (r : JobRequest) where
  pub same-job-asked : job_from (request_of (record_for r)) ≡ job_from r
  same-job-asked = ap kept_job (holds-job (record_for r) refl ∙ request-back r) ∙ job-again (filled r)

  kind-known : (m : Method) → is_kind (method_kind m) ≡ true
  kind-known (Damped c) = refl
  kind-known (MultiStart c) = refl
  kind-known (Annealing c) = refl

  -- its numbers for kinds are kinds
  pub is-asked : counts_taken (filled r) ≡ true → is_request (record_for r) ≡ true
  unfolding is_request
  is-asked e =
      let n : Counts (filled r) = counts (filled r) e in
      let known = is_true (known_kinds (record_of (job_from r))) (record-known (job_from r) n.variables n.operands) in
      simp (kind-known (filled r).method, le-ltb _ _ n.variables, le-ltb _ _ n.operands, known)

-- ---- Requests that make one job are answered alike by an admission
-- the first of two lists, one after the other, of which the first has no number 0
abbrev or_else : ℕ → ℕ → ℕ
or_else zero m = m
or_else (suc n) m = suc n

abbrev numbered : List Refusal → Bool
numbered [] = true
numbered (r ∷ rs) = not (eqb 0 r.number) && numbered rs

first_then : (rs rest : List Refusal) → T (numbered rs) → first_refusal (rs ++ rest) ≡ or_else (first_refusal rs) (first_refusal rest)
first_then [] rest t = refl
first_then (r ∷ rs) rest t =
    by r.cause r.number (and_l (not (eqb 0 r.number)) (numbered rs) t) (first_then rs rest (and_r (not (eqb 0 r.number)) (numbered rs) t))
  where
    by : (c : Bool) (n : ℕ) → T (not (eqb 0 n)) → first_refusal (rs ++ rest) ≡ or_else (first_refusal rs) (first_refusal rest) →
        cond c n (first_refusal (rs ++ rest)) ≡ or_else (cond c n (first_refusal rs)) (first_refusal rest)
    by true zero t e = absurd t
    by true (suc n) t e = refl
    by false n t e = e

-- the causes that a job has beside its counts
abbrev others : Job → List Refusal
others j = drop 1 (job_refusals j)

pub answered-alike : (a b : JobRequest) → job_from a ≡ job_from b → (place : ℕ) (taken : Bool) →
    first_refusal (admit_refusals place a taken) ≡ first_refusal (admit_refusals place b taken)
answered-alike a b e place taken = by (counts_wrong (filled a)) (counts_wrong (filled b)) (ap counts_wrong e) (one_answer a b e)
  where
    last : List Refusal
    last = refusal 10 taken ∷ []

    by : (c d : Bool) → c ≡ d → cond c 1 (first_refusal (others (filled a))) ≡ cond d 1 (first_refusal (others (filled b))) →
        cond c 1 (cond (no_place place) 2 (first_refusal (others (filled a) ++ last)))
        ≡ cond d 1 (cond (no_place place) 2 (first_refusal (others (filled b) ++ last)))
    by true true p q = refl
    by false false p q =
        ap (cond (no_place place) 2)
        (first_then (others (filled a)) last tt ∙ ap (λ (n : ℕ). or_else n (first_refusal last)) q ∙ sym (first_then (others (filled b)) last tt))
    by true false p q = absurd (true≢false p)
    by false true p q = absurd (false≢true p)
