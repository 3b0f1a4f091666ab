-- `heldrows::written::lay_operands` meets its contract: the loop's invariant: the parts passed stand behind the front. Assumes nothing.
use mathlib.Core.Path.{◌≡◌, refl, sym, ap, ◌∙◌}
use Prim.Native.Nat.{ℕ, ◌+◌}
use native.Mathlib.Omega.{arith}
use mathlib.Core.List.{append-nil}
use lib.ListN.{length, get_or, take}
use lib.Seq.{length-sets, take_all}
use Rattle.jobs.specs.Entries.{no_operand_record}
use Rattle.held.specs.Places.{operand_kind_at, limit_at}
use Rattle.held.specs.Written.{in_turn, operand_counts, operand_numbers}
use Rattle.held.specs.WrittenLaws.{turn_more}
use Rattle.heldrows.proofs.written.lay_operands.Goals as goal

pub loop-n-init : goal.loop-n-init
unfolding in_turn
loop-n-init c = (refl, refl, sym (append-nil _), sym (append-nil _))

pub loop-n-preserved : goal.loop-n-preserved
loop-n-preserved c =
    let l = c.loop-n in
    let e = c.lay_operand.ensures in (
      ap length e.0 ∙ length-sets l.job.counts (operand_kind_at l.n)
          (operand_counts (get_or c.args.records
          l.n no_operand_record)) ∙ l.invariant.0,
      ap length e.1 ∙ length-sets l.job.numbers (limit_at l.n)
          (operand_numbers (get_or c.args.records
          l.n no_operand_record)) ∙ l.invariant.1,
      ap (take (operand_kind_at (l.n + 1))) e.0 ∙ turn_more
          (λ (k : ℕ). operand_counts (get_or c.args.records
          k no_operand_record)) l.n (operand_kind_at l.n) (operand_kind_at (l.n + 1)) l.job.counts
          (take (operand_kind_at 0) c.args.job.now.counts)
          l.invariant.2 (omega arith) (omega (arith, l.invariant.0, c.lent.ensures.long.0)),
      ap (take (limit_at (l.n + 1))) e.1
          ∙ turn_more
          (λ (k : ℕ). operand_numbers (get_or c.args.records
          k no_operand_record)) l.n (limit_at l.n) (limit_at (l.n + 1)) l.job.numbers
          (take (limit_at 0) c.args.job.now.numbers) l.invariant.3
          (omega arith) (omega (arith, l.invariant.1, c.lent.ensures.long.1)),
    )

pub returns : goal.returns
returns c =
    let e : c.loop-n.n ≡ 12 = omega arith in (
      sym (take_all 73 c.loop-n.job.counts (omega (arith, c.loop-n.invariant.0, c.lent.ensures.long.0)))
          ∙ rw e at c.loop-n.invariant.2,
      sym (take_all 195 c.loop-n.job.numbers (omega (arith, c.loop-n.invariant.1, c.lent.ensures.long.1)))
          ∙ rw e at c.loop-n.invariant.3,
    )
