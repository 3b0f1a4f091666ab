-- Demand 3 holds. Assumes nothing.
use Rattle.std.specs.Prelude.{◌≡◌, refl, Bool, true, false, List, [], ◌∷◌, ◌↔◌, ◌≢◌, ℕ, zero, suc, ◌≤◌, ◌<◌, T, get_or}
use Rattle.std.proofs.Common.{sym, ap, ◌∙◌, subst, true≢false, zero-le, arith, get_or-set_other, ext_get_or}
use Rattle.std.proofs.lemmas.Bool.{false≢true, not-false}
use Rattle.lists.specs.Refusals.{first_refusal, answers-none, none_of}
use Rattle.optics.specs.Check.{surfaces_taken}
use Rattle.variables.specs.Active.{num_active}
use Rattle.merit.specs.Calls.{unless_refused, evaluate_number}
use Rattle.merit.specs.declared.types.MeritEvaluation.{MeritEvaluation}
use Rattle.jobs.specs.declared.types.Job.{Job}
use Rattle.jobs.specs.declared.types.JobRequest.{JobRequest}
use Rattle.jobs.specs.declared.types.Method.{Method}
use Rattle.jobs.specs.Checks.{counts_taken, admission_refusals}
use Rattle.jobs.specs.Filled.{filled}
use Rattle.jobs.specs.Kept.{job_from}
use Rattle.jobs.proofs.RecordLaws.{request-back}
use Rattle.jobs.specs.RefusalLaws.{not-refused}
use Rattle.jobs.specs.Same.{SameJob}
use Rattle.jobs.proofs.SameLaws.{same-exactly}
use Rattle.jobs.specs.Unused.{CleanRecord}
use Rattle.runs.specs.Run.{Surfaces, is_done}
use Rattle.runs.proofs.Ends.{Ends-after}
use Rattle.runs.proofs.RunEnds.{run-bounded}
use Rattle.runs.specs.JobRun.{Result}
use Rattle.runs.specs.Rows.{job_of_row, pending_surfaces, bound_by, bound}
use Rattle.runs.specs.Rows as Rows
use Rattle.runs.specs.Resumption.{resumption}
use Rattle.runs.proofs.RowLaws.{ReadBack, resumption-admitted, resumption-asks, resumption-done, turns-admitted, turns-advance}
use Rattle.runs.specs.State.{state_of}
use Rattle.runs.specs.RowAfter.{turned_unless, row_after}
use Rattle.runs.proofs.Turned.{reached, row-stands, job-after, unfinished-below, turns-after}
use Rattle.runs.proofs.TurnLaws.{evaluation-clean}
use Rattle.runs.proofs.PendingTaken.{pending-checked}
use Rattle.runs.specs.ZeroEntries.{ZeroEntries}
use Rattle.runs.proofs.ZeroEntryLaws.{zero-entries}
use Rattle.runs.specs.Zeros.{zero_result}
use Rattle.runs.specs.declared.types.Row.{Row}
use Rattle.held.specs.RowFrom.{row_from}
use Rattle.held.specs.Written.{held_from}
use Rattle.held.specs.declared.types.HeldRow.{HeldRow}
use Rattle.bench.specs.declared.types.Bench.{Bench}
use Rattle.runs.specs.JobMerit.{lens_with, evaluate_of}
use Rattle.runs.specs.Turn.{turned}
use Rattle.bench.specs.Book.{Call, admit, turn, fetch, release, listing, deal, Answer, number, fetched, listed, dealt, answer_unless, Entry, empty, holds}
use Rattle.bench.specs.Book.{Book, empty_book, entry_at, is_empty, is_finished, result_of, count_of, places_where}
use Rattle.bench.specs.Book.{run_after, left_by, answers_by, book_answer, book_step, book_after}
use Rattle.bench.specs.Book as Book
use Rattle.bench.specs.Benches.{zero_row, no_row, empty_bench, held_at, row_at, with_row}
use Rattle.bench.specs.Calls.{is_vacant, turn_number, bench_answer, bench_step}
use Rattle.bench.proofs.Pairs.{none, both, pair-get_or, pair-map}
use Rattle.bench.proofs.Admission.{Admissible}
use Rattle.bench.proofs.Places.{KeptRow, not-vacant, undamaged, zero-vacant, held_kept}
use Rattle.bench.specs.OrderLaws.{ordered-perm, rising-ordered}
use Rattle.bench.proofs.Agreement.{Agree, kept_at, same_answer, agree-step}
use Rattle.bench.proofs.RefusedCalls.{refused-changes-nothing}
use Rattle.bench.proofs.Results.{evaluable, returned}
use Rattle.bench.proofs.Dealings.{dealt-turns, dealt-rows, most-dealt, how-many, spent, place-next, fair-run, within-run}
use Rattle.bench.specs.Theorem.{bench_after, SameBench, RowHolds, SamePlace, Returned, ReturnedBy, Demand3}

-- ---- lists of calls
agree-empty : Agree empty_bench empty_book
agree-empty = let z = held_kept zero_row empty refl in record { places = both z (both z (both z (both z none))); four = refl; next = refl; below = omega arith }

agree_left : (calls : List Call) (b : Bench) (k : Book) → Agree b k → Agree (left_by bench_step b calls) (left_by book_step k calls)
unfolding left_by
agree_left [] b k a = a
agree_left (c ∷ cs) b k a = agree_left cs (bench_step b c) (book_step k c) (agree-step b k a c)

agree_after : (calls : List Call) → Agree (bench_after calls) (book_after calls)
agree_after calls = agree_left calls empty_bench empty_book agree-empty

same-answers : (calls : List Call) (b : Bench) (k : Book) → Agree b k → answers_by bench_answer bench_step b calls ≡ answers_by book_answer book_step k calls
unfolding answers_by
same-answers [] b k a = refl
same-answers (c ∷ cs) b k a = λ i. same_answer b k a c i ∷ same-answers cs (bench_step b c) (book_step k c) (agree-step b k a c) i

-- ---- a place
-- turns leave the record that admission made
record-after : (job : Job) → Admissible job → (count : ℕ) → CleanRecord (row_after (evaluate_of job) count job).kind (row_after (evaluate_of job) count job).job
unfolding Rows.admitted Rows.advance
record-after job a count = reached (evaluate_of job) (λ (r : Row). CleanRecord r.kind r.job) job a.clean (λ r u h. h) count

pending-evaluable : (job : Job) → Admissible job → (count : ℕ) → Rows.is_finished (row_after (evaluate_of job) count job) ≡ false
    → evaluate_number (lens_with job (pending_surfaces (row_after (evaluate_of job) count job))) job.merit_function ≡ 0
pending-evaluable job a count u =
    let r = row_after (evaluate_of job) count job in
    evaluable job a (pending_surfaces r) (subst (λ (j : Job). T (surfaces_taken (pending_surfaces r) j.prescription.surface_count))
    (job-after (evaluate_of job) job a.back count) (pending-checked r (undamaged job a count) u))

said : (r : Row) (e : Entry) → KeptRow r e → SamePlace r e
said r empty h = h
said r (holds job count) h =
    let a = h.admissible in
    record {
      taken = ap is_vacant h.row ∙ not-vacant job a count;
      same_job = ap job_of_row h.row ∙ job-after (evaluate_of job) job a.back count;
      turns = h.turns;
      resumes = ap resumption h.row ∙ row-stands (evaluate_of job) job a.back count;
      row = h.row;
      record_clean = subst (λ (r : Row). CleanRecord r.kind r.job) (sym h.row) (record-after job a count);
      state_clean =
          subst (λ (r : Row). ZeroEntries job (state_of r)) (sym h.row) (zero-entries (evaluate_of job) job a.back a.kept (evaluation-clean job) count);
      evaluable =
          subst (λ (r : Row). Rows.is_finished r ≡ false → evaluate_number (lens_with job (pending_surfaces r)) job.merit_function ≡ 0) (sym h.row)
          (pending-evaluable job a count);
    }

same_place : (calls : List Call) (place : ℕ) → place < 4 → SamePlace (row_at (bench_after calls) place) (entry_at (book_after calls) place)
same_place calls place h = said _ (entry_at (book_after calls) place) (kept_at (bench_after calls) (book_after calls) (agree_after calls) place h).row

-- ---- two lists: an entry says its row, and the row its entry
row-said : (r s : Row) (e : Entry) → SamePlace r e → SamePlace s e → r ≡ s
row-said r s empty h g = h ∙ sym g
row-said r s (holds job count) h g = h.row ∙ sym g.row

vacant-not : (r s : Row) (job : Job) (count : ℕ) → r ≡ s → r ≡ zero_row → RowHolds s job count → ⊥
vacant-not r s job count p z h = true≢false (sym zero-vacant ∙ ap is_vacant (sym z ∙ p) ∙ h.taken)

entry-said : (r s : Row) (d e : Entry) → r ≡ s → SamePlace r d → SamePlace s e → d ≡ e
entry-said r s empty empty p h g = refl
entry-said r s empty (holds job count) p h g = absurd (vacant-not r s job count p h g)
entry-said r s (holds job count) empty p h g = absurd (vacant-not s r job count (sym p) g h)
entry-said r s (holds i m) (holds j n) p h g =
    λ t. holds ((sym h.same_job ∙ ap job_of_row p ∙ g.same_job) t) ((sym h.turns ∙ ap (λ (r : Row). r.turns) p ∙ g.turns) t)

module _ (some others : List Call) where
  entries-equal : SameBench (bench_after some) (bench_after others) → (place : ℕ) → place < 4
      → entry_at (book_after some) place ≡ entry_at (book_after others) place
  entries-equal p place h =
      entry-said _ _ (entry_at (book_after some) place) (entry_at (book_after others) place)
      (ap (λ (rows : List HeldRow). row_from (get_or rows place no_row)) p)
      (same_place some place h) (same_place others place h)

  rows-equal : ((place : ℕ) → place < 4 → entry_at (book_after some) place ≡ entry_at (book_after others) place)
      → SameBench (bench_after some) (bench_after others)
  rows-equal q =
      ext_get_or no_row (bench_after some).rows (bench_after others).rows ((agree_after some).four ∙ sym (agree_after others).four) λ place h.
      at place (subst (λ (n : ℕ). place < n) (agree_after some).four h)
    where
      row-at : (place : ℕ) → place < 4 → row_at (bench_after some) place ≡ row_at (bench_after others) place
      row-at place h =
          row-said _ _ (entry_at (book_after others) place) (subst (λ (e : Entry). SamePlace (row_at (bench_after some) place) e) (q place h)
          (same_place some place h)) (same_place others place h)

      held-at : (calls : List Call) (place : ℕ) → place < 4 → held_at (bench_after calls) place ≡ held_from (row_at (bench_after calls) place)
      held-at calls place h = (kept_at (bench_after calls) (book_after calls) (agree_after calls) place h).same

      at : (place : ℕ) → place < 4 → held_at (bench_after some) place ≡ held_at (bench_after others) place
      at place h = held-at some place h ∙ ap held_from (row-at place h) ∙ sym (held-at others place h)

-- ---- jobs
same-jobs : (a b : JobRequest) → first_refusal (admission_refusals a) ≡ 0 → (job_from a ≡ job_from b) ↔ SameJob a b
same-jobs a b e =
    same-exactly a b (not-false (counts_taken (filled a)) (none_of (admission_refusals a) 1 ((not-refused (filled a)).0 e)))

-- ---- one call on any bench
one-merit : (b : Bench) (place n : ℕ) → turn_number b place n ≡ 0
    → bench_step b (turn place n) ≡ with_row b place
    (Rows.advance (row_at b place) (evaluate_of (job_of_row (row_at b place)) (pending_surfaces (row_at b place))))
unfolding bench_step turned
one-merit b place n e = ap (λ (m : ℕ). unless_refused m (with_row b place (turned (row_at b place))) b) e

other-rows : (b : Bench) (place n other : ℕ) → other ≢ place → row_at (bench_step b (turn place n)) other ≡ row_at b other
unfolding bench_step
other-rows b place n other h = go (turn_number b place n)
  where
    go : (m : ℕ) → row_at (unless_refused m (with_row b place (turned (row_at b place))) b) other ≡ row_at b other
    go zero = ap row_from (get_or-set_other b.rows place other (held_from (turned (row_at b place))) no_row h)
    go (suc m) = refl

-- ---- the bound
turns-bounded : (f : Surfaces → MeritEvaluation) (job : Job) → ReadBack job → (k : ℕ) → (row_after f k job).turns ≤ bound job
unfolding row_after turned_unless
turns-bounded f job back zero = subst (λ (n : ℕ). n ≤ bound job) (sym (turns-admitted job)) zero-le
turns-bounded f job back (suc k) = go (Rows.is_finished (row_after f k job)) refl (turns-bounded f job back k)
  where
    go : (b : Bool) → Rows.is_finished (row_after f k job) ≡ b → (row_after f k job).turns ≤ bound job
        → (turned_unless f b (row_after f k job)).turns ≤ bound job
    go true e h = h
    go false e h =
        subst (λ (n : ℕ). n ≤ bound job) (sym (turns-advance (row_after f k job) (f (pending_surfaces (row_after f k job))) ∙ ap suc (turns-after f job k e)))
        (unfinished-below f job back k e)

-- what a place's row says of its entry
abbrev Bounded : Entry → Type 0
Bounded empty = Unit
Bounded (holds job count) = (count ≤ bound job) × Admissible job

bounded-by : (r : Row) (e : Entry) → KeptRow r e → Bounded e
bounded-by r empty h = tt
bounded-by r (holds job count) h = (
  subst (λ (n : ℕ). n ≤ bound job) (ap (λ (r : Row). r.turns) (sym h.row) ∙ h.turns) (turns-bounded (evaluate_of job) job h.admissible.back count),
  h.admissible,
)

bounded_at : (calls : List Call) (place : ℕ) → Bounded (entry_at (book_after calls) place)
bounded_at calls place =
    pair-get_or {R = λ (h : HeldRow) (e : Entry). Bounded e} no_row empty (pair-map (λ h e k. bounded-by (row_from h) e k.row) (agree_after calls).places) tt
    place

run-ended : (job : Job) (count : ℕ) → bound job ≤ count → is_done (run_after job count) ≡ true
unfolding is_done
run-ended job count h = ap is_done (Ends-after (evaluate_of job) (λ s. tt) (run-bounded job) count h).2

bound-is : (job : Job) (m : Method) → job.method ≡ m → bound job ≡ bound_by m (num_active job.variables)
unfolding bound
bound-is job m e = ap (λ (m : Method). bound_by m (num_active job.variables)) e

-- ---- results
result_in : Answer → Result
result_in (number n) = zero_result
result_in (fetched r) = r
result_in (listed l) = zero_result
result_in (dealt n) = zero_result

is_fetched : Answer → Bool
is_fetched (number n) = false
is_fetched (fetched r) = true
is_fetched (listed l) = false
is_fetched (dealt n) = false

fetched-is : (n : ℕ) (r s : Result) → answer_unless n (fetched r) ≡ fetched s → (n ≡ 0) × (s ≡ r)
unfolding result_in is_fetched
fetched-is zero r s e = (refl, sym (ap result_in e))
fetched-is (suc n) r s e = absurd (false≢true (ap is_fetched e))

returned-by : (e : Entry) (r : Result) → is_empty e ≡ false → Bounded e → r ≡ result_of e → ReturnedBy e r
returned-by empty r t h p = absurd (true≢false t)
returned-by (holds job count) r t h p = subst (Returned job) (sym p) (returned job h.1)

fetched-returned : (calls : List Call) (place : ℕ) (r : Result) → bench_answer (bench_after calls) (fetch place) ≡ fetched r
    → ReturnedBy (entry_at (book_after calls) place) r
unfolding book_answer
fetched-returned calls place r e =
    let k = book_after calls in
    let p = fetched-is (Book.fetch_number k place) (result_of (entry_at k place)) r
    (sym (same_answer (bench_after calls) k (agree_after calls) (fetch place)) ∙ e) in
    let n = (answers-none (Book.fetch_refusals k place) tt).0 p.0 in
    returned-by (entry_at k place) r (none_of (Book.fetch_refusals k place) 11 n) (bounded_at calls place) p.1

-- ---- THE THEOREM
pub demand3 : Demand3
unfolding bound_by
demand3 = record {
  answers = λ calls. same-answers calls empty_bench empty_book agree-empty;
  lists_each = λ k. ordered-perm (λ (place : ℕ). count_of (entry_at k place)) (places_where (λ (place : ℕ). is_finished (entry_at k place)));
  lists_rising = λ k. rising-ordered (λ (place : ℕ). count_of (entry_at k place)) (λ (place : ℕ). is_finished (entry_at k place));
  places = same_place;
  equal_benches = λ some others. (entries-equal some others, rows-equal some others);
  same_jobs = same-jobs;
  one_merit = one-merit;
  others = other-rows;
  refused = refused-changes-nothing;
  begins = λ r. resumption-admitted (job_from r) (request-back r);
  goes_on = resumption-asks;
  ends = resumption-done;
  bounded = λ calls place count job e. (subst Bounded e (bounded_at calls place)).0;
  ended = run-ended;
  damped_bound = λ job c e. bound-is job _ e;
  multi_start_bound = λ job c e. bound-is job _ e;
  annealing_bound = λ job c e. bound-is job _ e;
  results = fetched-returned;
  next_places = λ calls. (agree_after calls).next;
  next_below = λ calls. subst (λ (n : ℕ). n < 4) (sym (agree_after calls).next) (agree_after calls).below;
  next_place = place-next;
  dealt_turns = dealt-turns;
  dealt_rows = dealt-rows;
  at_most = most-dealt;
  spent = spent;
  how_many = how-many;
  fair = fair-run;
  within_four = within-run;
}
