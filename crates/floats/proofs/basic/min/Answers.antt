-- `floats::basic::min` meets its contract: each arm returns what `min_of` picks by the tests that led there. Assumes nothing.
use Rattle.floats.specs.BasicLaws.{differs}
use Rattle.floats.proofs.basic.min.Goals as goal

pub returns-then-x : goal.returns-then-x
returns-then-x c = simp (differs, c.if-x.true)

pub returns-then-y-x : goal.returns-then-y-x
returns-then-y-x c = simp (differs, c.if-x.false, c.if-y-x.true)

pub returns-else-y-x : goal.returns-else-y-x
returns-else-y-x c = simp (differs, c.if-x.false, c.if-y-x.false)
