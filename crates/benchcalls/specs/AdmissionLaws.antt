-- Admission by a record of numbers: what the call's contract says, out of the row's answer. Assumes nothing.
use Rattle.std.specs.Prelude.{◌≡◌, refl, Bool, true, false, cond, ℕ, ◌≤◌, ◌<◌}
use Rattle.std.proofs.Common.{ap, ◌∙◌}
use Rattle.lists.specs.Refusals.{first_refusal}
use Rattle.bench.specs.declared.types.Bench.{Bench}
use Rattle.bench.specs.Benches.{held_at, with_held, row_at}
use Rattle.bench.specs.Refusals.{admit_refusals}
use Rattle.bench.specs.Calls.{admit_number, admitted_bench}
use Rattle.held.specs.declared.types.HeldRow.{HeldRow}
use Rattle.rows.specs.Calls.{admit_row_number, admitted_row}
use Rattle.records.specs.declared.types.RequestRecord.{RequestRecord}
use Rattle.records.specs.Requests.{request_of, is_request}
use Rattle.records.specs.Exported.{admit_record_number, admitted_record_bench}
use Rattle.benchcalls.specs.Placed.{same_row, admit-past, admitted-there}

module _ (b : Bench) (place : ℕ) where
  pub record-past : 3 < place → (q : RequestRecord) (k : ℕ) → k ≡ cond (is_request q) (first_refusal (admit_refusals place (request_of q) false)) 1
      → (k ≡ admit_record_number b place q) × (b ≡ admitted_record_bench b place q)
  record-past h q k e = by (is_request q) e
    where
      by : (t : Bool) → k ≡ cond t (first_refusal (admit_refusals place (request_of q) false)) 1
          → (k ≡ cond t (admit_number b place (request_of q)) 1) × (b ≡ cond t (admitted_bench b place (request_of q)) b)
      by true e = (e ∙ (admit-past b place h (request_of q)).0, (admit-past b place h (request_of q)).1)
      by false e = (e, refl)

  pub record-there : place ≤ 3 → (q : RequestRecord) (k : ℕ) (z : HeldRow)
      → k ≡ cond (is_request q) (admit_row_number (row_at b place) place (request_of q)) 1
      → z ≡ cond (is_request q) (admitted_row (held_at b place) place (request_of q)) (held_at b place)
      → (k ≡ admit_record_number b place q) × (with_held b place z ≡ admitted_record_bench b place q)
  record-there h q k z e f = by (is_request q) e f
    where
      by : (t : Bool) → k ≡ cond t (admit_row_number (row_at b place) place (request_of q)) 1
          → z ≡ cond t (admitted_row (held_at b place) place (request_of q)) (held_at b place)
          → (k ≡ cond t (admit_number b place (request_of q)) 1) × (with_held b place z ≡ cond t (admitted_bench b place (request_of q)) b)
      by true e f = admitted-there b place h (request_of q) k z (e, f)
      by false e f = (e, ap (λ (x : HeldRow). with_held b place x) f ∙ same_row b place)
