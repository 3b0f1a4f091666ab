-- `heldrows::written::lay_operand` meets its contract. Assumes nothing.
use Prim.Native.Nat.{◌+◌, ◌*◌}
use Rattle.held.specs.WrittenLaws.{two-stores, three-stores}
use Rattle.heldrows.proofs.written.lay_operand.Goals as goal

pub returns : goal.returns
returns c = let a = c.args in (two-stores a.job.now.counts (49 + 2 * a.n) _ _, three-stores a.job.now.numbers (159 + 3 * a.n) _ _ _)
