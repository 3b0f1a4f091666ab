-- 01's plain book: "four entries, each empty or a job with a count". It knows no row. Definitions only.
use Rattle.std.specs.Prelude.{ℕ, zero, suc, Bool, true, false, not, cond, ◌&&◌, List, [], ◌∷◌, length, get_or, set, replicate}
use Rattle.lists.specs.Refusals.{Refusal, refusal, first_refusal}
use Rattle.merit.specs.Calls.{unless_refused}
use Rattle.jobs.specs.declared.types.Job.{Job}
use Rattle.jobs.specs.declared.types.JobRequest.{JobRequest}
use Rattle.jobs.specs.Kept.{job_from}
use Rattle.runs.specs.Run.{Run, after_merits, is_done, value}
use Rattle.runs.specs.JobRun.{Result, run}
use Rattle.runs.specs.Zeros.{zero_result}
use Rattle.runs.specs.JobMerit.{evaluate_of}
use Rattle.bench.specs.Refusals.{no_place, scratch_short, admit_refusals}
use Rattle.bench.specs.Order.{ordered}
use Rattle.bench.specs.Dealing.{place_after, Dealer, served}

-- ---- Calls and answers
-- "It is fed each call with its arguments, but not the bench, and of scratch only the length."
pub data Call : Type 0 where
  admit : (place : ℕ) → JobRequest → Call
  turn : (place scratch_length : ℕ) → Call
  fetch : (place : ℕ) → Call
  release : (place : ℕ) → Call
  listing : Call
  deal : (turns scratch_length : ℕ) → Call

-- a number, 0 where the call was done; the result, where a fetch was done; the places listed; or how many turns were dealt
pub data Answer : Type 0 where
  number : ℕ → Answer
  fetched : Result → Answer
  listed : List ℕ → Answer
  dealt : ℕ → Answer

-- the answer of a fetch or a dealing: the number where it is refused
abbrev pub answer_unless : (refused : ℕ) → Answer → Answer
answer_unless zero a = a
answer_unless (suc n) a = number (suc n)

-- those of a list of places that pass a test, and those of the four
abbrev pub chosen : (ℕ → Bool) → List ℕ → List ℕ
chosen test [] = []
chosen test (p ∷ ps) = cond (test p) (p ∷ chosen test ps) (chosen test ps)

abbrev pub places_where : (ℕ → Bool) → List ℕ
places_where test = chosen test (0 ∷ 1 ∷ 2 ∷ 3 ∷ [])

-- ---- The book
pub data Entry : Type 0 where
  empty : Entry
  holds : Job → (count : ℕ) → Entry

-- "the book keeps such a place": the one to go next (request 8)
pub record Book : Type 0 where
  pub entries : List Entry
  pub next : ℕ

-- "all empty at first"
abbrev pub empty_book : Book
empty_book = record { entries = replicate 4 empty; next = 0 }

abbrev pub entry_at : Book → (place : ℕ) → Entry
entry_at b place = get_or b.entries place empty

abbrev pub with_entry : Book → (place : ℕ) → Entry → Book
with_entry b place e = record { entries = set b.entries place e; next = b.next }

-- "Taken and empty are said of its entries"
abbrev pub is_empty : Entry → Bool
is_empty empty = true
is_empty (holds job count) = false

-- the job's run after as many merits: "it stands just before the next or at its end"
abbrev pub run_after : Job → (count : ℕ) → Run Result
run_after job count = after_merits (evaluate_of job) count (run job)

-- "an entry is finished when its job's run has no merit after its count"
abbrev pub is_finished : Entry → Bool
is_finished empty = false
is_finished (holds job count) = is_done (run_after job count)

-- the run's result; of an empty entry it is not asked, since 11 comes before
abbrev pub result_of : Entry → Result
result_of empty = zero_result
result_of (holds job count) = value (evaluate_of job) (run job)

-- one working turn more
abbrev pub counted : Entry → Entry
counted empty = empty
counted (holds job count) = holds job (suc count)

-- working turns since its job came
abbrev pub count_of : Entry → ℕ
count_of empty = 0
count_of (holds job count) = count

-- "listing answers the finished places", "by working turns used, fewest first, equal ones by rising place" (request 10)
abbrev pub finished_places : Book → List ℕ
finished_places b = ordered (λ (place : ℕ). count_of (entry_at b place)) (places_where (λ (place : ℕ). is_finished (entry_at b place)))

-- ---- "It refuses by the two lists below, never with 12": no 12 stands here
-- "Admit checks 1 to 8 and 10"
abbrev pub admit_number : Book → (place : ℕ) → JobRequest → ℕ
admit_number b place request = first_refusal (admit_refusals place request (not (is_empty (entry_at b place))))

-- "turn 2, 9 and 11 to 13"
abbrev pub turn_refusals : Book → (place length : ℕ) → List Refusal
turn_refusals b place length =
    refusal 2 (no_place place)
    ∷ refusal 9 (scratch_short length)
    ∷ refusal 11 (is_empty (entry_at b place))
    ∷ refusal 13 (is_finished (entry_at b place))
    ∷ []

-- "fetch 2, 11, 12 and 14"
abbrev pub fetch_refusals : Book → (place : ℕ) → List Refusal
fetch_refusals b place =
    refusal 2 (no_place place)
    ∷ refusal 11 (is_empty (entry_at b place))
    ∷ refusal 14 (not (is_finished (entry_at b place)))
    ∷ []

-- "release 2 and 11"
abbrev pub release_refusals : Book → (place : ℕ) → List Refusal
release_refusals b place = refusal 2 (no_place place) ∷ refusal 11 (is_empty (entry_at b place)) ∷ []

abbrev pub turn_number : Book → (place length : ℕ) → ℕ
turn_number b place length = first_refusal (turn_refusals b place length)

abbrev pub fetch_number : Book → (place : ℕ) → ℕ
fetch_number b place = first_refusal (fetch_refusals b place)

abbrev pub release_number : Book → (place : ℕ) → ℕ
release_number b place = first_refusal (release_refusals b place)

-- "Before the first turn, with N of 0 too, a dealing checks 9" (request 8)
abbrev pub deal_number : (length : ℕ) → ℕ
deal_number length = first_refusal (refusal 9 (scratch_short length) ∷ [])

-- ---- "deals by this rule" (request 8)
-- "skipping empty and finished ones"
abbrev pub is_live : Entry → Bool
is_live e = not (is_empty e) && not (is_finished e)

abbrev pub served_book : Book → (place : ℕ) → Book
served_book b place = record { entries = set b.entries place (counted (entry_at b place)); next = place_after place }

abbrev pub book_dealer : Dealer Book
book_dealer = record { live = λ b place. is_live (entry_at b place); serve = served_book; next = λ b. b.next }

-- the places that a dealing serves, in order: none where it is refused
abbrev pub served_in : Book → (turns length : ℕ) → List ℕ
served_in b turns length = unless_refused (deal_number length) (served book_dealer turns b) []

-- ---- Lists of calls, or of turns dealt, each on what the last one left
unfoldable pub left_by : {S C : Type 0} → (step : S → C → S) → S → List C → S
left_by step s [] = s
left_by step s (c ∷ cs) = left_by step (step s c) cs

unfoldable pub answers_by : {S C A : Type 0} → (answer : S → C → A) (step : S → C → S) → S → List C → List A
answers_by answer step s [] = []
answers_by answer step s (c ∷ cs) = answer s c ∷ answers_by answer step (step s c) cs

-- ---- What a call answers, and what it makes of the book: "a refused call changes nothing"
unfoldable pub book_answer : Book → Call → Answer
book_answer b (admit place request) = number (admit_number b place request)
book_answer b (turn place length) = number (turn_number b place length)
-- "fetch answers the run's result"
book_answer b (fetch place) = answer_unless (fetch_number b place) (fetched (result_of (entry_at b place)))
book_answer b (release place) = number (release_number b place)
book_answer b listing = listed (finished_places b)
-- "answers how many were dealt"
book_answer b (deal turns scratch) = answer_unless (deal_number scratch) (dealt (length (served_in b turns scratch)))

unfoldable pub book_step : Book → Call → Book
-- "Else admit enters the job, defaults filled in, with count 0"
book_step b (admit place request) = unless_refused (admit_number b place request) (with_entry b place (holds (job_from request) 0)) b
-- "turn adds 1 (a turn not refused is a working turn)"
book_step b (turn place length) = unless_refused (turn_number b place length) (with_entry b place (counted (entry_at b place))) b
book_step b (fetch place) = b
-- "release empties the entry"
book_step b (release place) = unless_refused (release_number b place) (with_entry b place empty) b
book_step b listing = b
book_step b (deal turns scratch) = left_by served_book b (served_in b turns scratch)

-- from the empty book
abbrev pub book_after : List Call → Book
book_after calls = left_by book_step empty_book calls

abbrev pub book_answers : List Call → List Answer
book_answers calls = answers_by book_answer book_step empty_book calls
