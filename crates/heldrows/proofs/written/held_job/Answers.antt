-- `heldrows::written::held_job` meets its contract: each part stands behind the one before. Assumes nothing.
use mathlib.Core.Path.{ap, ◌∙◌}
use mathlib.Core.List.{List, ◌++◌}
use Prim.Native.Nat.{ℕ}
use lib.Ieee.{Float}
use Rattle.jobs.specs.Records.{variable_record_at, operand_record_at}
use Rattle.held.specs.Written.{in_turn, variable_counts, operand_counts, variable_numbers, operand_numbers, held_counts, held_numbers}
use Rattle.heldrows.proofs.written.held_job.Goals as goal

pub returns : goal.returns
unfolding held_counts held_numbers
returns c =
    let j = c.args.asked in (
      c.lay_operands.ensures.0 ∙ ap (λ (p : List ℕ). p ++ in_turn (λ (n : ℕ). operand_counts (operand_record_at j n)) 12)
          (c.lay_variables.ensures.0
          ∙ ap (λ (p : List ℕ). p ++ in_turn (λ (i : ℕ). variable_counts (variable_record_at j i)) 8)
          c.first_counts-counts.ensures),
      c.lay_operands.ensures.1 ∙ ap (λ (p : List Float). p ++ in_turn (λ (n : ℕ). operand_numbers (operand_record_at j n)) 12)
          (c.lay_variables.ensures.1
          ∙ ap (λ (p : List Float). p ++ in_turn (λ (i : ℕ). variable_numbers (variable_record_at j i)) 8)
          c.first_numbers-numbers.ensures),
    )
