-- `floats::basic::clamp` meets its contract: each arm returns what `clamp_of` picks by the tests that led there. Assumes nothing.
use Rattle.floats.proofs.basic.clamp.Goals as goal

pub returns-then-x-lo : goal.returns-then-x-lo
returns-then-x-lo c = simp c.if-x-lo.true

pub returns-then-x-hi : goal.returns-then-x-hi
returns-then-x-hi c = simp (c.if-x-lo.false, c.if-x-hi.true)

pub returns-else-x-hi : goal.returns-else-x-hi
returns-else-x-hi c = simp (c.if-x-lo.false, c.if-x-hi.false)
