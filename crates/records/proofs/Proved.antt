-- Lists of exported calls are lists of 01's calls, and each call of 01 can be made by an exported one. Assumes nothing.
use Rattle.std.specs.Prelude.{◌≡◌, refl, Bool, true, false, not, cond, List, [], ◌∷◌, ◌++◌, ℕ}
use Rattle.std.proofs.Common.{sym, ap, ◌∙◌}
use Rattle.std.proofs.lemmas.Bool.{false≢true}
use Rattle.merit.specs.Calls.{unless_refused}
use Rattle.jobs.specs.declared.types.JobRequest.{JobRequest}
use Rattle.jobs.specs.Checks.{counts_taken}
use Rattle.jobs.specs.Filled.{filled}
use Rattle.jobs.specs.Kept.{job_from}
use Rattle.runs.specs.Rows.{admitted}
use Rattle.bench.specs.declared.types.Bench.{Bench}
use Rattle.bench.specs.Benches.{empty_bench, row_at, with_row}
use Rattle.bench.specs.Book.{Call, Answer, number, left_by, answers_by}
use Rattle.bench.specs.Calls.{is_vacant, admit_number, admitted_bench, bench_answer, bench_step}
use Rattle.records.specs.declared.types.RequestRecord.{RequestRecord}
use Rattle.records.specs.Requests.{request_of, is_request}
use Rattle.records.specs.Exported.{admit_record_number, admitted_record_bench, ExportedCall, admit_record, turn, fetch, release, listing, deal, record_for}
use Rattle.records.specs.Exported.{exported_answer, exported_step, as_calls, all_as_calls, is_call, to_calls}
use Rattle.records.specs.Exported.{ExportedAreCalls}
use Rattle.records.proofs.Asked.{same-job-asked, is-asked, answered-alike}

-- ---- one exported call, and 01's calls after it
abbrev call_answers : Bench → List Call → List Answer
call_answers b calls = answers_by bench_answer bench_step b calls

abbrev SameBench : ExportedCall → Bench → List Call → Type 0
SameBench c b rest = left_by bench_step (exported_step b c) rest ≡ left_by bench_step b (as_calls c ++ rest)

abbrev SameAnswers : ExportedCall → Bench → List Call → Type 0
SameAnswers c b rest =
    let after = call_answers (exported_step b c) rest in
    cond (is_call c) (exported_answer b c ∷ after) after ≡ call_answers b (as_calls c ++ rest)

step-as : (c : ExportedCall) (b : Bench) (rest : List Call) → SameBench c b rest
unfolding exported_step as_calls left_by bench_step
step-as (admit_record place q) b rest = by (is_request q) refl
  where
    by : (t : Bool) → is_request q ≡ t → SameBench (admit_record place q) b rest
    by true e = rw e
    by false e = rw e
step-as (turn place length) b rest = refl
step-as (fetch place) b rest = refl
step-as (release place) b rest = refl
step-as listing b rest = refl
step-as (deal turns length) b rest = refl

answer-as : (c : ExportedCall) (b : Bench) (rest : List Call) → SameAnswers c b rest
unfolding exported_step exported_answer as_calls answers_by bench_step bench_answer
answer-as (admit_record place q) b rest = by (is_request q) refl
  where
    by : (t : Bool) → is_request q ≡ t → SameAnswers (admit_record place q) b rest
    by true e = rw e
    by false e = rw e
answer-as (turn place length) b rest = refl
answer-as (fetch place) b rest = refl
answer-as (release place) b rest = refl
answer-as listing b rest = refl
answer-as (deal turns length) b rest = refl

-- ---- lists of them
benches-from : (calls : List ExportedCall) (b : Bench) → left_by exported_step b calls ≡ left_by bench_step b (all_as_calls calls)
unfolding all_as_calls left_by
benches-from [] b = refl
benches-from (c ∷ cs) b = benches-from cs (exported_step b c) ∙ step-as c b (all_as_calls cs)

answers-from : (calls : List ExportedCall) (b : Bench) → to_calls calls (answers_by exported_answer exported_step b calls) ≡ call_answers b (all_as_calls calls)
unfolding all_as_calls to_calls answers_by
answers-from [] b = refl
answers-from (c ∷ cs) b =
    ap (λ (l : List Answer). cond (is_call c) (exported_answer b c ∷ l) l) (answers-from cs (exported_step b c)) ∙ answer-as c b (all_as_calls cs)

-- ---- a record that is no request
no-request : (b : Bench) (place : ℕ) (q : RequestRecord) → is_request q ≡ false →
    (exported_answer b (admit_record place q) ≡ number 1) × (exported_step b (admit_record place q) ≡ b)
unfolding exported_answer exported_step
no-request b place q e = (rw e, rw e)

-- ---- the record of a request
module _ (b : Bench) (place : ℕ) (r : JobRequest) where
  abbrev q : RequestRecord
  q = record_for r

  number-alike : admit_number b place (request_of q) ≡ admit_number b place r
  unfolding admit_number
  number-alike = answered-alike (request_of q) r (same-job-asked r) place (not (is_vacant (row_at b place)))

  bench-alike : admitted_bench b place (request_of q) ≡ admitted_bench b place r
  bench-alike = λ i. unless_refused (number-alike i) (with_row b place (admitted (same-job-asked r i))) b

  -- 1, where its counts are out of range
  too_many : counts_taken (filled r) ≡ false → admit_number b place r ≡ 1
  unfolding admit_number
  too_many e = rw e

  admits : (admit_record_number b place q ≡ admit_number b place r) × (admitted_record_bench b place q ≡ admitted_bench b place r)
  admits = by (counts_taken (filled r)) refl (is_request q) refl
    where
      by : (t : Bool) → counts_taken (filled r) ≡ t → (u : Bool) → is_request q ≡ u →
          (admit_record_number b place q ≡ admit_number b place r) × (admitted_record_bench b place q ≡ admitted_bench b place r)
      by t e true f = (rw f number-alike, rw f bench-alike)
      by true e false f = absurd (false≢true (sym f ∙ is-asked r e))
      by false e false f =
          let one = too_many e in
          (rw f (sym one), rw f (sym (ap (λ (n : ℕ). unless_refused n (with_row b place (admitted (job_from r))) b) one)))

pub exported-are-calls : ExportedAreCalls
unfolding exported_answer exported_step bench_answer bench_step
exported-are-calls = record {
  benches = λ calls. benches-from calls empty_bench;
  answers = λ calls. answers-from calls empty_bench;
  no_request = no-request;
  asked = λ r e. (is-asked r e, same-job-asked r);
  admits = λ b place r. (ap number (admits b place r).0, (admits b place r).1);
}
