-- The exported calls: 01's, with admission by a record of numbers, as a caller in C makes them. A list of them is a list of 01's calls, and each call of 01
-- can be made by one of them: so `Demand3` (bench) is about all that such a caller can do. Definitions only; the proof is `exported-are-calls` in `Proved`.
use Rattle.std.specs.Prelude.{◌≡◌, Bool, true, false, cond, List, [], ◌∷◌, ◌++◌, ℕ}
use Rattle.jobs.specs.declared.types.JobRequest.{JobRequest}
use Rattle.jobs.specs.Checks.{counts_taken}
use Rattle.jobs.specs.Filled.{filled}
use Rattle.jobs.specs.Kept.{job_from}
use Rattle.jobs.specs.Records.{kind_of, record_of}
use Rattle.bench.specs.declared.types.Bench.{Bench}
use Rattle.bench.specs.Benches.{empty_bench}
use Rattle.bench.specs.Book.{Call, Answer, number}
use Rattle.bench.specs.Book as Book
use Rattle.bench.specs.Calls.{admit_number, admitted_bench, bench_answer, bench_step}
use Rattle.bench.specs.Theorem.{bench_after, bench_answers}
use Rattle.records.specs.declared.types.RequestRecord.{RequestRecord}
use Rattle.records.specs.Requests.{request_of, all_given, is_request}

-- ---- Admission by a record: of what it asks for; 1, and nothing changes, where it is no request
abbrev pub admit_record_number : Bench → (place : ℕ) → RequestRecord → ℕ
admit_record_number b place q = cond (is_request q) (admit_number b place (request_of q)) 1

abbrev pub admitted_record_bench : Bench → (place : ℕ) → RequestRecord → Bench
admitted_record_bench b place q = cond (is_request q) (admitted_bench b place (request_of q)) b

-- ---- The calls, what each answers and what it leaves
pub data ExportedCall : Type 0 where
  admit_record : (place : ℕ) → RequestRecord → ExportedCall
  turn : (place scratch_length : ℕ) → ExportedCall
  fetch : (place : ℕ) → ExportedCall
  release : (place : ℕ) → ExportedCall
  listing : ExportedCall
  deal : (turns scratch_length : ℕ) → ExportedCall

unfoldable pub exported_answer : Bench → ExportedCall → Answer
exported_answer b (admit_record place q) = number (admit_record_number b place q)
exported_answer b (turn place length) = bench_answer b (Book.turn place length)
exported_answer b (fetch place) = bench_answer b (Book.fetch place)
exported_answer b (release place) = bench_answer b (Book.release place)
exported_answer b listing = bench_answer b Book.listing
exported_answer b (deal turns length) = bench_answer b (Book.deal turns length)

unfoldable pub exported_step : Bench → ExportedCall → Bench
exported_step b (admit_record place q) = admitted_record_bench b place q
exported_step b (turn place length) = bench_step b (Book.turn place length)
exported_step b (fetch place) = bench_step b (Book.fetch place)
exported_step b (release place) = bench_step b (Book.release place)
exported_step b listing = bench_step b Book.listing
exported_step b (deal turns length) = bench_step b (Book.deal turns length)

-- lists of them from the empty bench, each on what the last one left
abbrev pub exported_after : List ExportedCall → Bench
exported_after calls = Book.left_by exported_step empty_bench calls

abbrev pub exported_answers : List ExportedCall → List Answer
exported_answers calls = Book.answers_by exported_answer exported_step empty_bench calls

-- ---- As calls of 01: an admission whose record is no request is none
unfoldable pub as_calls : ExportedCall → List Call
as_calls (admit_record place q) = cond (is_request q) (Book.admit place (request_of q) ∷ []) []
as_calls (turn place length) = Book.turn place length ∷ []
as_calls (fetch place) = Book.fetch place ∷ []
as_calls (release place) = Book.release place ∷ []
as_calls listing = Book.listing ∷ []
as_calls (deal turns length) = Book.deal turns length ∷ []

unfoldable pub all_as_calls : List ExportedCall → List Call
all_as_calls [] = []
all_as_calls (c ∷ cs) = as_calls c ++ all_as_calls cs

-- whether it is one of 01's, and of the answers to a list those to 01's calls
abbrev pub is_call : ExportedCall → Bool
is_call (admit_record place q) = is_request q
is_call (turn place length) = true
is_call (fetch place) = true
is_call (release place) = true
is_call listing = true
is_call (deal turns length) = true

unfoldable pub to_calls : List ExportedCall → List Answer → List Answer
to_calls [] answers = []
to_calls (c ∷ cs) [] = []
to_calls (c ∷ cs) (a ∷ answers) = cond (is_call c) (a ∷ to_calls cs answers) (to_calls cs answers)

-- ---- The record of a request: its job in numbers, with every setting given
abbrev pub record_for : JobRequest → RequestRecord
record_for r = record { job = record_of (job_from r); kind = kind_of (job_from r); given = all_given }

pub record ExportedAreCalls : Type 0 where
  -- a list of exported calls leaves the bench that the calls of 01 leave which it is, and has their answers
  pub benches : (calls : List ExportedCall) → exported_after calls ≡ bench_after (all_as_calls calls)
  pub answers : (calls : List ExportedCall) → to_calls calls (exported_answers calls) ≡ bench_answers (all_as_calls calls)
  -- a record that is no request answers 1 and changes nothing, on any bench whatever
  pub no_request : (b : Bench) (place : ℕ) (q : RequestRecord) → is_request q ≡ false →
      (exported_answer b (admit_record place q) ≡ number 1) × (exported_step b (admit_record place q) ≡ b)
  -- each request whose counts are in range is asked for by a record, which makes the same job
  pub asked : (r : JobRequest) → counts_taken (filled r) ≡ true → (is_request (record_for r) ≡ true) × (job_from (request_of (record_for r)) ≡ job_from r)
  -- and whatever its counts, the record's admission has the answer and leaves the bench of the request's
  pub admits : (b : Bench) (place : ℕ) (r : JobRequest) →
      (exported_answer b (admit_record place (record_for r)) ≡ bench_answer b (Book.admit place r))
      × (exported_step b (admit_record place (record_for r)) ≡ bench_step b (Book.admit place r))
