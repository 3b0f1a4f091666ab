-- `heldrows::written::lay_variables` meets its contract: the loop's invariant: the parts passed stand behind the front. Assumes nothing.
use mathlib.Core.Path.{◌≡◌}
use mathlib.Core.List.{◌++◌}
use Prim.Native.Nat.{ℕ}
use lib.ListN.{length, get_or, take}
use Rattle.jobs.specs.Entries.{no_variable_record}
use Rattle.held.specs.Places.{variable_kind_at, min_value_at}
use Rattle.held.specs.Written.{in_turn, variable_counts, variable_numbers}
use Rattle.heldrows.proofs.written.lay_variables.Given as goal

abbrev pub invariant-loop-i : goal.invariant-loop-i
invariant-loop-i l = (length l.job.counts ≡ length l.initial.job.counts) × (length l.job.numbers ≡ length l.initial.job.numbers)
    × (take (variable_kind_at l.i) l.job.counts ≡ take (variable_kind_at 0) l.initial.job.counts
    ++ in_turn (λ (k : ℕ). variable_counts (get_or l.fn.records k no_variable_record)) l.i)
    × (take (min_value_at l.i) l.job.numbers ≡ take (min_value_at 0) l.initial.job.numbers
    ++ in_turn (λ (k : ℕ). variable_numbers (get_or l.fn.records k no_variable_record)) l.i)
