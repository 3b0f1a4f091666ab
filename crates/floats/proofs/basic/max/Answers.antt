-- `floats::basic::max` meets its contract: each arm returns what `max_of` picks by the tests that led there. Assumes nothing.
use Rattle.floats.specs.BasicLaws.{differs}
use Rattle.floats.proofs.basic.max.Goals as goal

pub returns-then-x : goal.returns-then-x
returns-then-x c = simp (differs, c.if-x.true)

pub returns-then-x-y : goal.returns-then-x-y
returns-then-x-y c = simp (differs, c.if-x.false, c.if-x-y.true)

pub returns-else-x-y : goal.returns-else-x-y
returns-else-x-y c = simp (differs, c.if-x.false, c.if-x-y.false)
