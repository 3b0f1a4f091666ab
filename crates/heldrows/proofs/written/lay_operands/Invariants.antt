-- `heldrows::written::lay_operands` meets its contract: the loop's invariant: the parts passed stand behind the front. Assumes nothing.
use mathlib.Core.Path.{◌≡◌}
use mathlib.Core.List.{◌++◌}
use Prim.Native.Nat.{ℕ}
use lib.ListN.{length, get_or, take}
use Rattle.jobs.specs.Entries.{no_operand_record}
use Rattle.held.specs.Places.{operand_kind_at, limit_at}
use Rattle.held.specs.Written.{in_turn, operand_counts, operand_numbers}
use Rattle.heldrows.proofs.written.lay_operands.Given as goal

abbrev pub invariant-loop-n : goal.invariant-loop-n
invariant-loop-n l = (length l.job.counts ≡ length l.initial.job.counts) × (length l.job.numbers ≡ length l.initial.job.numbers)
    × (take (operand_kind_at l.n) l.job.counts ≡ take (operand_kind_at 0) l.initial.job.counts
    ++ in_turn (λ (k : ℕ). operand_counts (get_or l.fn.records k no_operand_record)) l.n)
    × (take (limit_at l.n) l.job.numbers ≡ take (limit_at 0) l.initial.job.numbers
    ++ in_turn (λ (k : ℕ). operand_numbers (get_or l.fn.records k no_operand_record)) l.n)
