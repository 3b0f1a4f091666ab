-- For each number of each call a law: it is answered exactly when its cause holds and none in front of it in the call's list does. And what a refused call
-- was lent stays. Assumes nothing.
use Rattle.std.specs.Prelude.{◌≡◌, true, false, not, ◌||◌, List, [], ◌++◌, ◌↔◌, ℕ, suc, ◌≤◌, ◌<◌, Float, length, drop, replicate}
use Rattle.std.proofs.Common.{ap, arith, lt-ltb, le-ltb}
use Rattle.floats.specs.Constants.{zero64}
use Rattle.lists.specs.Refusals.{Refusal, NoneOf, before, answers, answers-none}
use Rattle.merit.specs.Calls.{unless_refused}
use Rattle.normal.specs.Layout.{scratch_length}
use Rattle.jobs.specs.declared.types.JobRequest.{JobRequest}
use Rattle.jobs.specs.Checks.{counts_wrong, lens_refused, variables_refused, followers_refused, operands_refused, settings_refused, no_active_variable}
use Rattle.jobs.specs.Checks.{no_operand}
use Rattle.jobs.specs.Filled.{filled}
use Rattle.runs.specs.Damage.{damaged}
use Rattle.runs.specs.JobRun.{Result}
use Rattle.runs.specs.Rows.{is_finished, result_of}
use Rattle.bench.specs.declared.types.Bench.{Bench}
use Rattle.bench.specs.Refusals.{no_place, scratch_short, admit_refusals}
use Rattle.bench.specs.Dealing.{served}
use Rattle.bench.specs.Benches.{row_at}
use Rattle.bench.specs.Calls.{is_vacant, admit_number, turn_refusals, turn_number, scratch_after, fetch_refusals, fetch_number, fetched_result}
use Rattle.bench.specs.Calls.{release_refusals}
use Rattle.bench.specs.Calls.{release_number, any_damaged, deal_refusals, deal_number, served_in, dealt_scratch, cleared_by, bench_dealer}

-- "Scratch from 128 upward is taken, and 9 is now given below 128." (request 11)
pub short-below : (length : ℕ) → length < 128 → scratch_short length ≡ true
short-below length h = lt-ltb length _ (omega (arith, h))

pub enough-from : (length : ℕ) → 128 ≤ length → scratch_short length ≡ false
enough-from length h = le-ltb length _ (omega (arith, h))

-- "nothing lent changes"
pub stays : {A : Type 0} (m n : ℕ) (new old : A) → m ≡ suc n → unless_refused m new old ≡ old
stays m n new old e = ap (λ (m : ℕ). unless_refused m new old) e

module _ (b : Bench) (place : ℕ) where
  -- ---- admit
  module _ (request : JobRequest) where
    abbrev causes : List Refusal
    causes = admit_refusals place request (not (is_vacant (row_at b place)))

    pub admit-0 : (admit_number b place request ≡ 0) ↔ NoneOf causes
    unfolding admit_number
    admit-0 = answers-none causes tt

    pub admit-1 : (admit_number b place request ≡ 1) ↔ ((counts_wrong (filled request) ≡ true) × NoneOf (before 1 causes))
    unfolding admit_number
    admit-1 = answers causes 1 tt tt

    pub admit-2 : (admit_number b place request ≡ 2) ↔ ((no_place place ≡ true) × NoneOf (before 2 causes))
    unfolding admit_number
    admit-2 = answers causes 2 tt tt

    pub admit-3 : (admit_number b place request ≡ 3) ↔ ((lens_refused (filled request) ≡ true) × NoneOf (before 3 causes))
    unfolding admit_number
    admit-3 = answers causes 3 tt tt

    pub admit-4 : (admit_number b place request ≡ 4) ↔ ((variables_refused (filled request) ≡ true) × NoneOf (before 4 causes))
    unfolding admit_number
    admit-4 = answers causes 4 tt tt

    pub admit-17 : (admit_number b place request ≡ 17) ↔ ((followers_refused (filled request) ≡ true) × NoneOf (before 17 causes))
    unfolding admit_number
    admit-17 = answers causes 17 tt tt

    pub admit-5 : (admit_number b place request ≡ 5) ↔ ((operands_refused (filled request) ≡ true) × NoneOf (before 5 causes))
    unfolding admit_number
    admit-5 = answers causes 5 tt tt

    pub admit-6 : (admit_number b place request ≡ 6) ↔ ((settings_refused (filled request) ≡ true) × NoneOf (before 6 causes))
    unfolding admit_number
    admit-6 = answers causes 6 tt tt

    pub admit-7 : (admit_number b place request ≡ 7) ↔ ((no_active_variable (filled request) ≡ true) × NoneOf (before 7 causes))
    unfolding admit_number
    admit-7 = answers causes 7 tt tt

    pub admit-8 : (admit_number b place request ≡ 8) ↔ ((no_operand (filled request) ≡ true) × NoneOf (before 8 causes))
    unfolding admit_number
    admit-8 = answers causes 8 tt tt

    pub admit-10 : (admit_number b place request ≡ 10) ↔ ((not (is_vacant (row_at b place)) ≡ true) × NoneOf (before 10 causes))
    unfolding admit_number
    admit-10 = answers causes 10 tt tt

  -- ---- turn
  module _ (n : ℕ) where
    pub turn-0 : (turn_number b place n ≡ 0) ↔ NoneOf (turn_refusals b place n)
    unfolding turn_number
    turn-0 = answers-none (turn_refusals b place n) tt

    pub turn-2 : (turn_number b place n ≡ 2) ↔ ((no_place place ≡ true) × NoneOf (before 2 (turn_refusals b place n)))
    unfolding turn_number
    turn-2 = answers (turn_refusals b place n) 2 tt tt

    pub turn-9 : (turn_number b place n ≡ 9) ↔ ((scratch_short n ≡ true) × NoneOf (before 9 (turn_refusals b place n)))
    unfolding turn_number
    turn-9 = answers (turn_refusals b place n) 9 tt tt

    pub turn-11 : (turn_number b place n ≡ 11) ↔ ((is_vacant (row_at b place) ≡ true) × NoneOf (before 11 (turn_refusals b place n)))
    unfolding turn_number
    turn-11 = answers (turn_refusals b place n) 11 tt tt

    pub turn-12 : (turn_number b place n ≡ 12) ↔ ((damaged (row_at b place) ≡ true) × NoneOf (before 12 (turn_refusals b place n)))
    unfolding turn_number
    turn-12 = answers (turn_refusals b place n) 12 tt tt

    pub turn-13 : (turn_number b place n ≡ 13) ↔ ((is_finished (row_at b place) ≡ true) × NoneOf (before 13 (turn_refusals b place n)))
    unfolding turn_number
    turn-13 = answers (turn_refusals b place n) 13 tt tt

  pub refused-scratch : (s : List Float) (n : ℕ) → turn_number b place (length s) ≡ suc n → scratch_after b place s ≡ s
  refused-scratch s n e = stays (turn_number b place (length s)) n (replicate scratch_length zero64 ++ drop scratch_length s) s e

  -- ---- fetch
  pub fetch-0 : (fetch_number b place ≡ 0) ↔ NoneOf (fetch_refusals b place)
  unfolding fetch_number
  fetch-0 = answers-none (fetch_refusals b place) tt

  pub fetch-2 : (fetch_number b place ≡ 2) ↔ ((no_place place ≡ true) × NoneOf (before 2 (fetch_refusals b place)))
  unfolding fetch_number
  fetch-2 = answers (fetch_refusals b place) 2 tt tt

  pub fetch-11 : (fetch_number b place ≡ 11) ↔ ((is_vacant (row_at b place) ≡ true) × NoneOf (before 11 (fetch_refusals b place)))
  unfolding fetch_number
  fetch-11 = answers (fetch_refusals b place) 11 tt tt

  pub fetch-12 : (fetch_number b place ≡ 12) ↔ ((damaged (row_at b place) ≡ true) × NoneOf (before 12 (fetch_refusals b place)))
  unfolding fetch_number
  fetch-12 = answers (fetch_refusals b place) 12 tt tt

  pub fetch-14 : (fetch_number b place ≡ 14) ↔ ((not (is_finished (row_at b place)) ≡ true) × NoneOf (before 14 (fetch_refusals b place)))
  unfolding fetch_number
  fetch-14 = answers (fetch_refusals b place) 14 tt tt

  pub refused-result : (old : Result) (n : ℕ) → fetch_number b place ≡ suc n → fetched_result b place old ≡ old
  refused-result old n e = stays (fetch_number b place) n (result_of (row_at b place)) old e

  -- ---- release
  pub release-0 : (release_number b place ≡ 0) ↔ NoneOf (release_refusals b place)
  unfolding release_number
  release-0 = answers-none (release_refusals b place) tt

  pub release-2 : (release_number b place ≡ 2) ↔ ((no_place place ≡ true) × NoneOf (before 2 (release_refusals b place)))
  unfolding release_number
  release-2 = answers (release_refusals b place) 2 tt tt

  pub release-11 : (release_number b place ≡ 11) ↔ ((is_vacant (row_at b place) ≡ true) × NoneOf (before 11 (release_refusals b place)))
  unfolding release_number
  release-11 = answers (release_refusals b place) 11 tt tt

-- ---- dealing (request 8)
module _ (b : Bench) (n : ℕ) where
  pub deal-0 : (deal_number b n ≡ 0) ↔ NoneOf (deal_refusals b n)
  unfolding deal_number
  deal-0 = answers-none (deal_refusals b n) tt

  pub deal-9 : (deal_number b n ≡ 9) ↔ ((scratch_short n ≡ true) × NoneOf (before 9 (deal_refusals b n)))
  unfolding deal_number
  deal-9 = answers (deal_refusals b n) 9 tt tt

  pub deal-12 : (deal_number b n ≡ 12) ↔ ((no_place b.next_place || any_damaged b ≡ true) × NoneOf (before 12 (deal_refusals b n)))
  unfolding deal_number
  deal-12 = answers (deal_refusals b n) 12 tt tt

-- a refused dealing serves nobody, and scratch stays
pub refused-dealing : (b : Bench) (turns : ℕ) (s : List Float) (n : ℕ) → deal_number b (length s) ≡ suc n →
    (served_in b turns (length s) ≡ []) × (dealt_scratch b turns s ≡ s)
refused-dealing b turns s n e =
    let none = stays (deal_number b (length s)) n (served bench_dealer turns b) [] e in (none, ap (λ (ps : List ℕ). cleared_by ps s) none)
