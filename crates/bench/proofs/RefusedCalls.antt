-- A call that is refused changes nothing: whatever the bench. Assumes nothing.
use Rattle.std.specs.Prelude.{◌≡◌, refl, [], ℕ, zero, suc, length}
use Rattle.std.proofs.Common.{ap, arith}
use Rattle.merit.specs.Calls.{unless_refused}
use Rattle.jobs.specs.Kept.{job_from}
use Rattle.runs.specs.Rows as Rows
use Rattle.runs.specs.Turn.{turned}
use Rattle.bench.specs.declared.types.Bench.{Bench}
use Rattle.bench.specs.Dealing.{served}
use Rattle.bench.specs.Book.{Call, admit, turn, fetch, release, listing, deal, Answer, number, fetched, listed, dealt, answer_unless, left_by}
use Rattle.bench.specs.Benches.{zero_row, row_at, with_row}
use Rattle.bench.specs.Calls.{turn_number, bench_dealer, served_bench, bench_answer, bench_step}
use Rattle.bench.specs.Calls as Calls
use Rattle.bench.proofs.CallLaws.{stays}

number_in : Answer → ℕ
number_in (number n) = n
number_in (fetched r) = 0
number_in (listed l) = 0
number_in (dealt n) = 0

pub refused-changes-nothing : (b : Bench) (c : Call) (n : ℕ) → bench_answer b c ≡ number (suc n) → bench_step b c ≡ b
unfolding bench_answer bench_step number_in left_by
refused-changes-nothing b (admit place r) n e = stays (Calls.admit_number b place r) n (with_row b place (Rows.admitted (job_from r))) b (ap number_in e)
refused-changes-nothing b (turn place l) n e = stays (turn_number b place l) n (with_row b place (turned (row_at b place))) b (ap number_in e)
refused-changes-nothing b (fetch place) n e = refl
refused-changes-nothing b (release place) n e = stays (Calls.release_number b place) n (with_row b place zero_row) b (ap number_in e)
refused-changes-nothing b listing n e = refl
refused-changes-nothing b (deal t l) n e = go (Calls.deal_number b l) e
  where
    go : (m : ℕ) → answer_unless m (dealt (length (unless_refused m (served bench_dealer t b) []))) ≡ number (suc n)
        → left_by served_bench b (unless_refused m (served bench_dealer t b) []) ≡ b
    go zero e = absurd (none n (ap number_in e))
      where
        none : (n : ℕ) → 0 ≡ suc n → ⊥
        none n h = omega arith
    go (suc m) e = refl
