-- What each call answers and what it leaves: the definitions that the calls' contracts cite, over any bench whatever. Definitions only.
use Rattle.std.specs.Prelude.{ℕ, ◌-◌, Bool, not, ◌&&◌, ◌||◌, List, [], ◌∷◌, ◌++◌, eqb, Float, length, take, set, replicate}
use Rattle.lists.specs.All.{all_below}
use Rattle.lists.specs.Refusals.{Refusal, refusal, first_refusal}
use Rattle.merit.specs.Calls.{unless_refused}
use Rattle.jobs.specs.declared.types.JobRequest.{JobRequest}
use Rattle.jobs.specs.Kept.{job_from}
use Rattle.runs.specs.Cleared.{cleared}
use Rattle.runs.specs.JobRun.{Result}
use Rattle.runs.specs.Rows.{admitted, is_finished, result_of}
use Rattle.runs.specs.Damage.{damaged}
use Rattle.runs.specs.declared.types.Row.{Row}
use Rattle.runs.specs.Turn.{turned}
use Rattle.held.specs.Written.{held_from}
use Rattle.bench.specs.Refusals.{no_place, scratch_short, admit_refusals}
use Rattle.bench.specs.Order.{ordered}
use Rattle.bench.specs.Dealing.{place_after, Dealer, served}
use Rattle.bench.specs.Book.{Call, admit, turn, fetch, release, listing, deal, Answer, number, fetched, listed, dealt, answer_unless, places_where, left_by}
use Rattle.bench.specs.Benches.{zero_row, row_at, with_row}
use Rattle.bench.specs.declared.types.Bench.{Bench}
use Rattle.bench.specs.declared.types.Dealt.{Dealt}
use Rattle.bench.specs.declared.types.Finished.{Finished}

-- "a place is empty exactly when its kind is 0, all else in the row disregarded"
abbrev pub is_vacant : Row → Bool
is_vacant r = eqb r.kind 0

-- ---- admit: "1 to 8 and 10"
unfoldable pub admit_number : Bench → (place : ℕ) → JobRequest → ℕ
admit_number b place request = first_refusal (admit_refusals place request (not (is_vacant (row_at b place))))

abbrev pub admitted_bench : Bench → (place : ℕ) → JobRequest → Bench
admitted_bench b place request = unless_refused (admit_number b place request) (with_row b place (admitted (job_from request))) b

-- ---- turn: "2, 9 and 11 to 13"
-- those of the row at the place
abbrev pub row_turn_refusals : (length : ℕ) → Row → List Refusal
row_turn_refusals length r =
    refusal 9 (scratch_short length)
    -- "11. Turn, fetch, release: place empty."
    ∷ refusal 11 (is_vacant r)
    -- "12. Turn, fetch: the row's job or surfaces would be refused .. its kind or phase is none of those here, or a counter passes its limit"
    ∷ refusal 12 (damaged r)
    -- "13. Turn: finished."
    ∷ refusal 13 (is_finished r)
    ∷ []

abbrev pub turn_refusals : Bench → (place length : ℕ) → List Refusal
turn_refusals b place length = refusal 2 (no_place place) ∷ row_turn_refusals length (row_at b place)

unfoldable pub turn_number : Bench → (place length : ℕ) → ℕ
turn_number b place length = first_refusal (turn_refusals b place length)

-- "A turn works out one merit": `turned`
abbrev pub turned_bench : Bench → (place length : ℕ) → Bench
turned_bench b place length = unless_refused (turn_number b place length) (with_row b place (turned (row_at b place))) b

-- cleared, unless the turn is refused
abbrev pub scratch_after : Bench → (place : ℕ) → List Float → List Float
scratch_after b place s = unless_refused (turn_number b place (length s)) (cleared s) s

-- ---- fetch: "2, 11, 12 and 14"
abbrev pub row_fetch_refusals : Row → List Refusal
row_fetch_refusals r =
    refusal 11 (is_vacant r)
    ∷ refusal 12 (damaged r)
    -- "14. Fetch: unfinished."
    ∷ refusal 14 (not (is_finished r))
    ∷ []

abbrev pub fetch_refusals : Bench → (place : ℕ) → List Refusal
fetch_refusals b place = refusal 2 (no_place place) ∷ row_fetch_refusals (row_at b place)

unfoldable pub fetch_number : Bench → (place : ℕ) → ℕ
fetch_number b place = first_refusal (fetch_refusals b place)

-- what is lent for the result, at exit: every field is written, or none
abbrev pub fetched_result : Bench → (place : ℕ) → (old : Result) → Result
fetched_result b place old = unless_refused (fetch_number b place) (result_of (row_at b place)) old

-- ---- release: "2 and 11"
abbrev pub row_release_refusals : Row → List Refusal
row_release_refusals r = refusal 11 (is_vacant r) ∷ []

abbrev pub release_refusals : Bench → (place : ℕ) → List Refusal
release_refusals b place = refusal 2 (no_place place) ∷ row_release_refusals (row_at b place)

unfoldable pub release_number : Bench → (place : ℕ) → ℕ
release_number b place = first_refusal (release_refusals b place)

-- "releasing empties it"
abbrev pub released_bench : Bench → (place : ℕ) → Bench
released_bench b place = unless_refused (release_number b place) (with_row b place zero_row) b

-- ---- listing: "Listing refuses nothing."
-- a place is listed when it is taken, undamaged and its run is at its end: "a damaged row is never listed"
abbrev pub is_listed : Row → Bool
is_listed r = not (is_vacant r) && not (damaged r) && is_finished r

unfoldable pub finished_places : Bench → List ℕ
finished_places b = ordered (λ (place : ℕ). (row_at b place).turns) (places_where (λ (place : ℕ). is_listed (row_at b place)))

-- how many they are, and 0 past them
abbrev pub listing_of : Bench → Finished
listing_of b = record { places = finished_places b ++ replicate (4 - length (finished_places b)) 0; count = length (finished_places b) }

abbrev pub places_in : Finished → List ℕ
places_in f = take f.count f.places

-- ---- dealing (request 8): "Before the first turn, with N of 0 too, a dealing checks 9, then gives 12 for a next place above 3 or any taken row that is
-- damaged"
abbrev pub taken_damaged : Row → Bool
taken_damaged r = not (is_vacant r) && damaged r

-- there is one at some place
abbrev pub any_damaged : Bench → Bool
any_damaged b = not (all_below (λ (place : ℕ). not (taken_damaged (row_at b place))) 4)

abbrev pub deal_refusals : Bench → (length : ℕ) → List Refusal
deal_refusals b length = refusal 9 (scratch_short length) ∷ refusal 12 (no_place b.next_place || any_damaged b) ∷ []

unfoldable pub deal_number : Bench → (length : ℕ) → ℕ
deal_number b length = first_refusal (deal_refusals b length)

-- "skipping empty and finished ones"; "a row that comes to be damaged during the dealing is skipped from then on"
abbrev pub is_live : Row → Bool
is_live r = not (is_vacant r) && not (damaged r) && not (is_finished r)

-- one working turn, and "the place to go next" is the one after
abbrev pub served_bench : Bench → (place : ℕ) → Bench
served_bench b place = record { rows = set b.rows place (held_from (turned (row_at b place))); next_place = place_after place }

abbrev pub bench_dealer : Dealer Bench
bench_dealer = record { live = λ b place. is_live (row_at b place); serve = served_bench; next = λ b. b.next_place }

-- the places that a dealing serves, in order: none where it is refused
abbrev pub served_in : Bench → (turns length : ℕ) → List ℕ
served_in b turns length = unless_refused (deal_number b length) (served bench_dealer turns b) []

abbrev pub dealt_bench : Bench → (turns length : ℕ) → Bench
dealt_bench b turns length = left_by served_bench b (served_in b turns length)

-- "answers how many were dealt"
abbrev pub dealt_of : Bench → (turns length : ℕ) → Dealt
dealt_of b turns scratch = record { dealt = length (served_in b turns scratch); number = deal_number b scratch }

-- scratch, which each turn dealt clears: with none dealt it is what it was
abbrev pub cleared_by : (served : List ℕ) → List Float → List Float
cleared_by [] s = s
cleared_by (p ∷ ps) s = cleared s

abbrev pub dealt_scratch : Bench → (turns : ℕ) → List Float → List Float
dealt_scratch b turns s = cleared_by (served_in b turns (length s)) s

-- ---- A call on a bench, as the book is fed it
unfoldable pub bench_answer : Bench → Call → Answer
bench_answer b (admit place request) = number (admit_number b place request)
bench_answer b (turn place length) = number (turn_number b place length)
bench_answer b (fetch place) = answer_unless (fetch_number b place) (fetched (result_of (row_at b place)))
bench_answer b (release place) = number (release_number b place)
bench_answer b listing = listed (places_in (listing_of b))
bench_answer b (deal turns scratch) = answer_unless (deal_number b scratch) (dealt (length (served_in b turns scratch)))

unfoldable pub bench_step : Bench → Call → Bench
bench_step b (admit place request) = admitted_bench b place request
bench_step b (turn place length) = turned_bench b place length
bench_step b (fetch place) = b
bench_step b (release place) = released_bench b place
bench_step b listing = b
bench_step b (deal turns scratch) = dealt_bench b turns scratch
