-- `jobs::kept::kept_operands` meets its contract. Assumes nothing.
use mathlib.Core.Path.{◌∙◌}
use Prim.Native.Nat.{ℕ}
use lib.ListN.{length, get_or}
use Rattle.lists.specs.Kept.{kept, below}
use Rattle.merit.specs.OperandTable.{no_operand}
use Rattle.std.proofs.Common.{rules, ◌≡◌}
use Rattle.jobs.proofs.kept.kept_operands.Goals as goal

pub returns : goal.returns
returns c =
    let f = c.args.f in
    let long : length f.operands ≡ 12 = search rules in
    let kept = c.clear.ensures no_operand
    ∙ (λ i. kept (below f.operand_count) (λ (k : ℕ). get_or f.operands k no_operand) (c.zero_operand.ensures i) (long i)) in
    λ i. record { operands = kept i; operand_count = f.operand_count }
