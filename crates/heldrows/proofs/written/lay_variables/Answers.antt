-- `heldrows::written::lay_variables` meets its contract: the loop's invariant: the parts passed stand behind the front. Assumes nothing.
use mathlib.Core.Path.{◌≡◌, refl, sym, ap, ◌∙◌}
use Prim.Native.Nat.{ℕ, ◌+◌}
use native.Mathlib.Omega.{arith}
use mathlib.Core.List.{append-nil}
use lib.ListN.{length, get_or, take}
use lib.Seq.{length-sets}
use Rattle.jobs.specs.Entries.{no_variable_record}
use Rattle.held.specs.Places.{variable_kind_at, min_value_at}
use Rattle.held.specs.Written.{in_turn, variable_counts, variable_numbers}
use Rattle.held.specs.WrittenLaws.{turn_more}
use Rattle.heldrows.proofs.written.lay_variables.Goals as goal

pub loop-i-init : goal.loop-i-init
unfolding in_turn
loop-i-init c = (refl, refl, sym (append-nil _), sym (append-nil _))

pub loop-i-preserved : goal.loop-i-preserved
loop-i-preserved c =
    let l = c.loop-i in
    let e = c.lay_variable.ensures in (
      ap length e.0 ∙ length-sets l.job.counts (variable_kind_at l.i)
          (variable_counts (get_or c.args.records
          l.i no_variable_record)) ∙ l.invariant.0,
      ap length e.1 ∙ length-sets l.job.numbers (min_value_at l.i)
          (variable_numbers (get_or c.args.records
          l.i no_variable_record)) ∙ l.invariant.1,
      ap (take (variable_kind_at (l.i + 1))) e.0 ∙ turn_more
          (λ (k : ℕ). variable_counts (get_or c.args.records
          k no_variable_record)) l.i (variable_kind_at l.i) (variable_kind_at (l.i + 1)) l.job.counts
          (take (variable_kind_at 0) c.args.job.now.counts)
          l.invariant.2 (omega arith) (omega (arith, l.invariant.0, c.lent.ensures.long.0)),
      ap (take (min_value_at (l.i + 1))) e.1 ∙ turn_more
          (λ (k : ℕ). variable_numbers (get_or c.args.records
          k no_variable_record)) l.i (min_value_at l.i) (min_value_at (l.i + 1)) l.job.numbers
          (take (min_value_at 0) c.args.job.now.numbers)
          l.invariant.3 (omega arith) (omega (arith, l.invariant.1, c.lent.ensures.long.1)),
    )

pub returns : goal.returns
returns c =
    let e : c.loop-i.i ≡ 8 = omega arith in
    (rw e at c.loop-i.invariant.2, rw e at c.loop-i.invariant.3)
