-- What a call on the held row of one place leaves and answers: the bench's definitions, of that row. Definitions only.
use Rattle.std.specs.Prelude.{ℕ, not, List, [], ◌∷◌, Float, length}
use Rattle.lists.specs.Refusals.{refusal, first_refusal}
use Rattle.merit.specs.Calls.{unless_refused}
use Rattle.jobs.specs.declared.types.JobRequest.{JobRequest}
use Rattle.jobs.specs.Kept.{job_from}
use Rattle.runs.specs.declared.types.Row.{Row}
use Rattle.runs.specs.JobRun.{Result}
use Rattle.runs.specs.Damage.{damaged}
use Rattle.runs.specs.Rows.{admitted, result_of}
use Rattle.runs.specs.Turn.{turned}
use Rattle.runs.specs.Cleared.{cleared}
use Rattle.held.specs.RowFrom.{row_from}
use Rattle.held.specs.Written.{held_from}
use Rattle.held.specs.declared.types.HeldRow.{HeldRow}
use Rattle.bench.specs.Benches.{zero_row}
use Rattle.bench.specs.Refusals.{admit_refusals}
use Rattle.bench.specs.Calls.{is_vacant, row_turn_refusals, row_fetch_refusals, row_release_refusals}

-- 11 and 12, which turn and fetch have in common
abbrev pub usable_number : Row → ℕ
usable_number r = first_refusal (refusal 11 (is_vacant r) ∷ refusal 12 (damaged r) ∷ [])

unfoldable pub turn_row_number : (length : ℕ) → Row → ℕ
turn_row_number n r = first_refusal (row_turn_refusals n r)

unfoldable pub turned_row : Row → (length : ℕ) → Row
turned_row r n = unless_refused (turn_row_number n r) (turned r) r

unfoldable pub scratch_of : Row → List Float → List Float
scratch_of r s = unless_refused (turn_row_number (length s) r) (cleared s) s

unfoldable pub admit_row_number : Row → (place : ℕ) → JobRequest → ℕ
admit_row_number r place request = first_refusal (admit_refusals place request (not (is_vacant r)))

-- the row of the place, unless a number refuses the call
unfoldable pub admitted_row : HeldRow → (place : ℕ) → JobRequest → HeldRow
admitted_row h place request = unless_refused (admit_row_number (row_from h) place request) (held_from (admitted (job_from request))) h

unfoldable pub fetch_row_number : Row → ℕ
fetch_row_number r = first_refusal (row_fetch_refusals r)

unfoldable pub fetched_of_row : Row → (old : Result) → Result
fetched_of_row r old = unless_refused (fetch_row_number r) (result_of r) old

unfoldable pub release_row_number : Row → ℕ
release_row_number r = first_refusal (row_release_refusals r)

unfoldable pub released_row : HeldRow → HeldRow
released_row h = unless_refused (release_row_number (row_from h)) (held_from zero_row) h
