-- `heldrows::written::lay_variable` meets its contract. Assumes nothing.
use Prim.Native.Nat.{◌+◌, ◌*◌}
use Rattle.held.specs.WrittenLaws.{three-stores, five-stores}
use Rattle.heldrows.proofs.written.lay_variable.Goals as goal

pub returns : goal.returns
returns c = let a = c.args in (five-stores a.job.now.counts (9 + 5 * a.i) _ _ _ _ _, three-stores a.job.now.numbers (135 + 3 * a.i) _ _ _)
