-- A call on the row of a place is that call on the bench: what the calls' contracts cite, out of the row's answer. Assumes nothing.
use Rattle.std.specs.Prelude.{◌≡◌, Bool, true, cond, List, [], ◌∷◌, ℕ, zero, suc, ◌≤◌, ◌<◌, Float, length, get_or, set}
use Rattle.std.proofs.Math.Path.{refl, sym, ap}
use Rattle.std.proofs.Common.{◌∙◌, arith, le-ltb, lt-ltb}
use Rattle.std.proofs.Math.Bool.{false, not}
use Rattle.merit.specs.Calls.{unless_refused}
use Rattle.jobs.specs.declared.types.JobRequest.{JobRequest}
use Rattle.jobs.specs.Checks.{counts_wrong}
use Rattle.jobs.specs.Filled.{filled}
use Rattle.jobs.specs.Kept.{job_from}
use Rattle.lists.specs.Refusals.{first_refusal}
use Rattle.runs.specs.declared.types.Row.{Row}
use Rattle.runs.specs.JobRun.{Result}
use Rattle.runs.specs.Rows.{admitted, result_of}
use Rattle.runs.specs.Turn.{turned}
use Rattle.runs.specs.Cleared.{cleared}
use Rattle.bench.specs.declared.types.Bench.{Bench}
use Rattle.held.specs.RowFrom.{row_from, Long}
use Rattle.held.specs.RowBack.{held_back, one-row}
use Rattle.held.specs.Written.{held_from}
use Rattle.held.specs.declared.types.HeldRow.{HeldRow}
use Rattle.bench.specs.Benches.{zero_row, no_row, held_at, with_held, row_at, with_row}
use Rattle.bench.specs.Refusals.{no_place, admit_refusals}
use Rattle.bench.specs.Calls.{is_vacant, admit_number, admitted_bench, turn_number, turned_bench, scratch_after, fetch_number}
use Rattle.bench.specs.Calls.{fetched_result}
use Rattle.bench.specs.Calls.{release_number, released_bench}
use Rattle.rows.specs.Calls.{turn_row_number, turned_row, scratch_of, admit_row_number, admitted_row, fetch_row_number, fetched_of_row}
use Rattle.rows.specs.Calls.{release_row_number, released_row}

-- an entry that is put back where it stands
put_back : (rs : List HeldRow) (i : ℕ) → set rs i (get_or rs i no_row) ≡ rs
put_back [] i = refl
put_back (r ∷ rs) zero = refl
put_back (r ∷ rs) (suc i) = ap (λ (l : List HeldRow). r ∷ l) (put_back rs i)

module _ (b : Bench) (place : ℕ) where
  pub same_row : with_held b place (held_at b place) ≡ b
  same_row = ap {B = Bench} (λ (rs : List HeldRow). record { rows = rs; next_place = b.next_place }) (put_back b.rows place)

  -- the row as a refused call leaves it, stored, is the bench as it was
  stored : (n : ℕ) (new : Row) → with_held b place (unless_refused n (held_from new) (held_at b place)) ≡ unless_refused n (with_row b place new) b
  stored zero new = refl
  stored (suc n) new = same_row

  -- what `turn` says of the number r, the bench z and scratch u, out of the scratch s
  abbrev pub Turned : List Float → ℕ → Bench → List Float → Type 0
  Turned s r z u = (r ≡ turn_number b place (length s)) × (z ≡ turned_bench b place (length s)) × (u ≡ scratch_after b place s)

  module _ (h : 3 < place) where
    none : no_place place ≡ true
    none = ap not (le-ltb place 4 (omega arith))

    no-turn : (n : ℕ) → turn_number b place n ≡ 2
    unfolding turn_number
    no-turn n = rw none

    pub turn-past : (s : List Float) → Turned s 2 b s
    turn-past s = (sym (no-turn (length s)), rw (no-turn (length s)), rw (no-turn (length s)))

    no-fetch : fetch_number b place ≡ 2
    unfolding fetch_number
    no-fetch = rw none

    pub fetch-past : (old : Result) → (2 ≡ fetch_number b place) × (old ≡ fetched_result b place old)
    fetch-past old = (sym no-fetch, rw no-fetch)

    no-release : release_number b place ≡ 2
    unfolding release_number
    no-release = rw none

    pub release-past : (2 ≡ release_number b place) × (b ≡ released_bench b place)
    release-past = (sym no-release, rw no-release)

    -- 1 comes before 2, and 2 before 10
    no-admit : (taken : Bool) (request : JobRequest) → first_refusal (admit_refusals place request taken) ≡ cond (counts_wrong (filled request)) 1 2
    no-admit taken request = rw none

    admits-nothing : (new : Bench) (request : JobRequest) → b ≡ unless_refused (cond (counts_wrong (filled request)) 1 2) new b
    admits-nothing new request = either (counts_wrong (filled request))
      where
        either : (c : Bool) → b ≡ unless_refused (cond c 1 2) new b
        either true = refl
        either false = refl

    pub admit-past : (request : JobRequest)
        → (first_refusal (admit_refusals place request false) ≡ admit_number b place request) × (b ≡ admitted_bench b place request)
    unfolding admit_number
    admit-past request =
        let taken = not (is_vacant (row_at b place)) in
        let new = with_row b place (admitted (job_from request)) in (
          no-admit false request ∙ sym (no-admit taken request),
          admits-nothing new request
              ∙ ap (λ (n : ℕ). unless_refused n new b) (sym (no-admit taken request)),
        )

  module _ (h : place ≤ 3) where
    some : no_place place ≡ false
    some = ap not (lt-ltb place 4 (omega arith))

    turn_at : (n : ℕ) → turn_number b place n ≡ turn_row_number n (row_at b place)
    unfolding turn_number turn_row_number
    turn_at n = rw some

    fetch-at : fetch_number b place ≡ fetch_row_number (row_at b place)
    unfolding fetch_number fetch_row_number
    fetch-at = rw some

    release-at : release_number b place ≡ release_row_number (row_at b place)
    unfolding release_number release_row_number
    release-at = rw some

    admit-at : (request : JobRequest) → admit_number b place request ≡ admit_row_number (row_at b place) place request
    unfolding admit_number admit_row_number
    admit-at request = refl

    -- what the row's call says, the bench's call says
    placed : (n m : ℕ) (new : Row) (k : ℕ) (z : HeldRow) → m ≡ n → (k ≡ n) × (z ≡ unless_refused n (held_from new) (held_at b place)) →
        (k ≡ m) × (with_held b place z ≡ unless_refused m (with_row b place new) b)
    placed n m new k z e a = (
      a.0 ∙ sym e,
      ap (λ (x : HeldRow). with_held b place x) a.1 ∙ stored n new ∙ ap (λ (q : ℕ). unless_refused q (with_row b place new) b) (sym e),
    )

    -- the row's arrays as a turn leaves them: they are those that the row is written as
    as_written : (n : ℕ) (z : HeldRow) → Long (held_at b place) → Long z → row_from z ≡ unless_refused n (turned (row_at b place)) (row_at b place) →
        z ≡ unless_refused n (held_from (turned (row_at b place))) (held_at b place)
    as_written zero z l m e = sym (held_back z m) ∙ ap held_from e
    as_written (suc n) z l m e = one-row z (held_at b place) m l e

    pub turned-there : (s u : List Float) (r : ℕ) (z : HeldRow) → Long (held_at b place) → Long z →
        (r ≡ turn_row_number (length s) (row_at b place)) × (row_from z ≡ turned_row (row_at b place) (length s)) × (u ≡ scratch_of (row_at b place) s) →
        Turned s r (with_held b place z) u
    unfolding turned_row scratch_of
    turned-there s u r z l m e =
        let n = turn_row_number (length s) (row_at b place) in
        let same = sym (turn_at (length s)) in (
          e.0 ∙ same,
          ap (λ (x : HeldRow). with_held b place x) (as_written n z l m e.1) ∙ stored n (turned (row_at b place))
              ∙ ap (λ (k : ℕ). unless_refused k (with_row b place (turned (row_at b place))) b) same,
          e.2 ∙ ap (λ (k : ℕ). unless_refused k (cleared s) s) same,
        )

    pub admitted-there : (request : JobRequest) (k : ℕ) (z : HeldRow) →
        (k ≡ admit_row_number (row_at b place) place request) × (z ≡ admitted_row (held_at b place) place request) →
        (k ≡ admit_number b place request) × (with_held b place z ≡ admitted_bench b place request)
    unfolding admitted_row
    admitted-there request k z a =
        placed (admit_row_number (row_at b place) place request) (admit_number b place request) (admitted (job_from request)) k z (admit-at request) a

    pub released-there : (k : ℕ) (z : HeldRow) → (k ≡ release_row_number (row_at b place)) × (z ≡ released_row (held_at b place))
        → (k ≡ release_number b place) × (with_held b place z ≡ released_bench b place)
    unfolding released_row
    released-there k z a = placed (release_row_number (row_at b place)) (release_number b place) zero_row k z release-at a

    pub fetched-there : (old z : Result) (k : ℕ) → (k ≡ fetch_row_number (row_at b place)) × (z ≡ fetched_of_row (row_at b place) old)
        → (k ≡ fetch_number b place) × (z ≡ fetched_result b place old)
    unfolding fetched_of_row
    fetched-there old z k a = (a.0 ∙ sym fetch-at, a.1 ∙ ap (λ (q : ℕ). unless_refused q (result_of (row_at b place)) old) (sym fetch-at))
