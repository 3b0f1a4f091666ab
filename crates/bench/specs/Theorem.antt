-- Demand 3: "For every list of admit, turn, fetch, release and listing calls", and of dealings (request 8: "demand 3's lists hold dealings too"), "refused ones
-- included, from the empty bench, each on the bench that the last one left". What is stated of a call on the bench is the definition that its contract cites
-- (`Calls`); the book is `Book`. Nothing is assumed of the calls. Definitions only; the proof is `demand3` in `Proved`.
use Rattle.std.specs.Prelude.{◌≡◌, true, false, ◌⊎◌, ◌↔◌, ◌≢◌, ℕ, suc, ◌+◌, ◌*◌, ◌≤◌, ◌<◌, T, length, take, replicate}
use mathlib.Core.List.{List, [], ◌∷◌, ◌++◌, map, Permᴰ}
use Rattle.lists.specs.Refusals.{first_refusal}
use Rattle.optics.specs.Check.{surfaces_taken}
use Rattle.variables.specs.Active.{num_active}
use Rattle.merit.specs.Calls.{evaluate_number}
use Rattle.jobs.specs.declared.types.DlsConfig.{DlsConfig}
use Rattle.jobs.specs.declared.types.Job.{Job}
use Rattle.jobs.specs.declared.types.JobRequest.{JobRequest}
use Rattle.jobs.specs.declared.types.MultiStartConfig.{MultiStartConfig}
use Rattle.jobs.specs.declared.types.SimulatedAnnealingConfig.{SimulatedAnnealingConfig}
use Rattle.jobs.specs.declared.types.Method.TheVariants.{Damped, MultiStart, Annealing}
use Rattle.jobs.specs.Checks.{admission_refusals}
use Rattle.jobs.specs.Kept.{job_from}
use Rattle.jobs.specs.Same.{SameJob}
use Rattle.jobs.specs.Unused.{CleanRecord}
use Rattle.runs.specs.Run.{done, ask, is_done, value}
use Rattle.runs.specs.Outcomes.{Evaluated, Descended}
use Rattle.runs.specs.JobRun.{Result, base_of, operand_count_of, run}
use Rattle.runs.specs.State.{state_of}
use Rattle.runs.specs.Unused.{CleanResult}
use Rattle.runs.specs.ZeroEntries.{ZeroEntries}
use Rattle.runs.specs.Rows.{job_of_row, admitted, pending_surfaces, advance, bound}
use Rattle.runs.specs.Rows as Rows
use Rattle.runs.specs.Resumption.{resumption}
use Rattle.runs.specs.RowAfter.{row_after}
use Rattle.runs.specs.declared.types.Row.{Row}
use Rattle.bench.specs.declared.types.Bench.{Bench}
use Rattle.runs.specs.JobMerit.{lens_with, evaluate_of}
use Rattle.bench.specs.Dealing.{Throughout, next_after, times}
use Rattle.bench.specs.Book.{Call, admit, turn, fetch, release, listing, deal, Answer, number, fetched, dealt, Entry, empty, holds, count_of}
use Rattle.bench.specs.Book.{Book, entry_at, places_where, run_after, left_by, answers_by, book_after, book_answers}
use Rattle.bench.specs.Book as Book
use Rattle.bench.specs.Benches.{zero_row, empty_bench, row_at, with_row}
use Rattle.bench.specs.Order.{Rising}
use Rattle.bench.specs.Calls.{is_vacant, is_live, turn_number, deal_number, bench_dealer, served_bench, served_in, bench_answer, bench_step}

-- what a list of calls leaves, and what its calls answer
abbrev pub bench_after : List Call → Bench
bench_after calls = left_by bench_step empty_bench calls

abbrev pub bench_answers : List Call → List Answer
bench_answers calls = answers_by bench_answer bench_step empty_bench calls

-- A row "holds the book's job, with the book's count as its working turns since that job came, and stands where 01's run of that job stands after that many
-- merits".
pub record RowHolds (r : Row) (job : Job) (count : ℕ) : Type 0 where
  pub taken : is_vacant r ≡ false
  pub same_job : job_of_row r ≡ job
  pub turns : r.turns ≡ count
  -- what the row has still to do is what the job's run has: it asks for the same surfaces and goes on alike with any answer, or it has the same result
  pub resumes : resumption r ≡ run_after job count
  -- job and count decide every entry: it is the row as admitted, turned as often
  pub row : r ≡ row_after (evaluate_of job) count job
  -- "unused entries .. are zero": in the job's record, and in the run's state
  pub record_clean : CleanRecord r.kind r.job
  pub state_clean : ZeroEntries job (state_of r)
  -- "A turn works out one merit": the surfaces whose merit comes next are surfaces that `evaluate` takes
  pub evaluable : Rows.is_finished r ≡ false → evaluate_number (lens_with job (pending_surfaces r)) job.merit_function ≡ 0

-- "after the list each place is empty where the book's is", and then all zero, "and else holds the book's job"
abbrev pub SamePlace : Row → Entry → Type 0
SamePlace r empty = r ≡ zero_row
SamePlace r (holds job count) = RowHolds r job count

-- equal benches: "from now on read apart from" the place to go next (request 8)
abbrev pub SameBench : Bench → Bench → Type 0
SameBench a b = a.rows ≡ b.rows

-- What a job's result is.
pub record Returned (job : Job) (r : Result) : Type 0 where
  -- what its run comes to
  pub result : r ≡ value (evaluate_of job) (run job)
  -- "the surfaces handed back have the merit printed beside them", and each operand's value and residual
  pub evaluated : Evaluated (evaluate_of job) r
  -- "zero past the counts": surfaces, values and residuals
  pub clean : CleanResult job.prescription.surface_count (num_active job.variables) (operand_count_of job) r
  -- the surfaces pass check 3, and `evaluate` takes them
  pub checked : T (surfaces_taken r.surfaces job.prescription.surface_count)
  pub evaluable : evaluate_number (lens_with job r.surfaces) job.merit_function ≡ 0
  -- a damped run's "final merit finite, not above its first"; the first is the merit of the job's surfaces
  pub descended : (config : DlsConfig) → job.method ≡ Damped config → Descended r
  pub first : (config : DlsConfig) → job.method ≡ Damped config → r.initial_merit ≡ (evaluate_of job (base_of job)).total_merit

abbrev pub ReturnedBy : Entry → Result → Type 0
ReturnedBy empty r = ⊥
ReturnedBy (holds job count) r = Returned job r

-- ---- Dealings (request 8)
-- the places that a call deals turns to, in order
abbrev pub dealt_to : Bench → Call → List ℕ
dealt_to b (admit place request) = []
dealt_to b (turn place scratch) = []
dealt_to b (fetch place) = []
dealt_to b (release place) = []
dealt_to b listing = []
dealt_to b (deal turns scratch) = served_in b turns scratch

-- "In any run of dealings, each on the bench that the last left", each of so many turns with so much scratch: the places served, in order
abbrev pub served_by : Bench → List (ℕ × ℕ) → List ℕ
served_by b [] = []
served_by b (d ∷ ds) = served_in b d.0 d.1 ++ served_by (bench_step b (deal d.0 d.1)) ds

-- single turns at these places
abbrev pub turns_at : (scratch : ℕ) → List ℕ → List Call
turns_at scratch places = map (λ (place : ℕ). turn place scratch) places

pub record Demand3 : Type 0 where
  -- ---- "the calls refused, their numbers, the results fetched and the places listed are those of 01's plain book"
  -- call by call: as many answers, each the same
  pub answers : (calls : List Call) → bench_answers calls ≡ book_answers calls
  -- what a book lists: each finished place once, and no other; "by working turns used, fewest first, equal ones by rising place" (request 10)
  pub lists_each : (k : Book) → Permᴰ (Book.finished_places k) (places_where (λ (place : ℕ). Book.is_finished (entry_at k place)))
  pub lists_rising : (k : Book) → Rising (λ (place : ℕ). count_of (entry_at k place)) (Book.finished_places k)
  -- ---- "after the list each place .."
  pub places : (calls : List Call) (place : ℕ) → place < 4 → SamePlace (row_at (bench_after calls) place) (entry_at (book_after calls) place)
  -- ---- "Two such lists leave equal benches exactly when each place holds the same job, or none, with equally many working turns since that job came."
  pub equal_benches : (some others : List Call) → SameBench (bench_after some) (bench_after others) ↔
      ((place : ℕ) → place < 4 → entry_at (book_after some) place ≡ entry_at (book_after others) place)
  -- "Jobs are the same when all their used entries are equal bit for bit", settings after defaults: requests that are taken make one job exactly then
  pub same_jobs : (a b : JobRequest) → first_refusal (admission_refusals a) ≡ 0 → (job_from a ≡ job_from b) ↔ SameJob a b
  -- ---- "In every such list a working turn works out just one merit"
  -- that of the surfaces pending, and makes the new row of it, on any bench whatever; no other row changes
  pub one_merit : (b : Bench) (place length : ℕ) → turn_number b place length ≡ 0 →
      bench_step b (turn place length)
      ≡ with_row b place (advance (row_at b place) (evaluate_of (job_of_row (row_at b place)) (pending_surfaces (row_at b place))))
  pub others : (b : Bench) (place length other : ℕ) → other ≢ place → row_at (bench_step b (turn place length)) other ≡ row_at b other
  -- "a refused call changes nothing"
  pub refused : (b : Bench) (c : Call) (n : ℕ) → bench_answer b c ≡ number (suc n) → bench_step b c ≡ b
  -- ---- What a row has still to do (`resumption`)
  -- as admitted, its job's run; unfinished, it asks for the merit of the surfaces pending and goes on as the row that this merit makes; finished, its result
  pub begins : (r : JobRequest) → resumption (admitted (job_from r)) ≡ run (job_from r)
  pub goes_on : (r : Row) → Rows.is_finished r ≡ false → resumption r ≡ ask (pending_surfaces r) λ e. resumption (advance r e)
  pub ends : (r : Row) → Rows.is_finished r ≡ true → resumption r ≡ done (Rows.result_of r)
  -- ---- "every job comes to its end in a number of turns known beforehand"
  -- no entry's count passes its job's bound, and there its run is at its end
  pub bounded : (calls : List Call) (place count : ℕ) (job : Job) → entry_at (book_after calls) place ≡ holds job count → count ≤ bound job
  pub ended : (job : Job) (count : ℕ) → bound job ≤ count → is_done (run_after job count) ≡ true
  -- "p counting enabled variables, is B = 1 + iterations limit × (2p + 10); (1 + trials) × B for multi-start; for annealing 1 + cycles × steps + 1 + 25 × (2p +
  -- 10)"
  pub damped_bound : (job : Job) (c : DlsConfig) → job.method ≡ Damped c → bound job ≡ 1 + c.max_iterations * (2 * num_active job.variables + 10)
  pub multi_start_bound : (job : Job) (c : MultiStartConfig) → job.method ≡ MultiStart c →
      bound job ≡ (1 + c.num_trials) * (1 + c.local_dls_config.max_iterations * (2 * num_active job.variables + 10))
  pub annealing_bound : (job : Job) (c : SimulatedAnnealingConfig) → job.method ≡ Annealing c →
      bound job ≡ 1 + c.max_cooling_cycles * c.steps_per_temperature + 1 + 25 * (2 * num_active job.variables + 10)
  -- ---- "its final merit finite, not above its first, and the merit of the surfaces returned"
  pub results : (calls : List Call) (place : ℕ) (r : Result) → bench_answer (bench_after calls) (fetch place) ≡ fetched r
      → ReturnedBy (entry_at (book_after calls) place) r
  -- ---- "Turns dealt fairly" (request 8), but for `answers`, `next_places` and `next_below` on any bench whatever
  -- "the book keeps such a place .. and must agree in refusals, numbers dealt" (`answers`) "and that place"
  pub next_places : (calls : List Call) → (bench_after calls).next_place ≡ (book_after calls).next
  -- "the place to go next, 0 to 3"
  pub next_below : (calls : List Call) → (bench_after calls).next_place < 4
  -- "the one after the last served by a dealing, 0 after 3, unchanged where none is served and by every other call"
  pub next_place : (b : Bench) (c : Call) → (bench_step b c).next_place ≡ next_after b.next_place (dealt_to b c)
  -- "dealings are orders of single turns": none of these turns is refused, and they leave its rows
  pub dealt_turns : (b : Bench) (n scratch : ℕ) →
      answers_by bench_answer bench_step b (turns_at scratch (served_in b n scratch)) ≡ replicate (length (served_in b n scratch)) (number 0)
  pub dealt_rows : (b : Bench) (n scratch : ℕ) → SameBench (bench_step b (deal n scratch)) (left_by bench_step b (turns_at scratch (served_in b n scratch)))
  -- "hands out N working turns": no more than N
  pub at_most : (b : Bench) (n scratch : ℕ) → length (served_in b n scratch) ≤ n
  -- "until N are spent or no job is left"
  pub spent : (b : Bench) (n scratch : ℕ) → deal_number b scratch ≡ 0
      → (length (served_in b n scratch) ≡ n) ⊎ ((i : ℕ) → i < 4 → is_live (row_at (bench_step b (deal n scratch)) i) ≡ false)
  -- "and answers how many were dealt"
  pub how_many : (b : Bench) (n scratch : ℕ) → deal_number b scratch ≡ 0 → bench_answer b (deal n scratch) ≡ dealt (length (served_in b n scratch))
  -- "two jobs unfinished and undamaged throughout differ by at most one in the turns dealt to them"
  pub fair : (b : Bench) (ds : List (ℕ × ℕ)) (i j : ℕ) → i < 4 → j < 4 → Throughout bench_dealer i b (served_by b ds)
      → Throughout bench_dealer j b (served_by b ds)
      → times i (served_by b ds) ≤ times j (served_by b ds) + 1
  -- "an unfinished, undamaged job is served within four turns dealt": whichever turns come before, it is among the next four
  pub within_four : (b : Bench) (ds : List (ℕ × ℕ)) (before after : List ℕ) (i : ℕ) → i < 4 → served_by b ds ≡ before ++ after
      → is_live (row_at (left_by served_bench b before) i) ≡ true → 4 ≤ length after → 0 < times i (take 4 after)
