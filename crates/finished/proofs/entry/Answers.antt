-- `finished::entry` meets its contract, test by test. Assumes nothing.
use Rattle.finished.specs.Inserted.{entry-before, entry-there, entry-behind}
use Rattle.finished.proofs.entry.Goals as goal

pub returns-then-i-at : goal.returns-then-i-at
returns-then-i-at c = let a = c.args in entry-before a.at a.place a.places a.i c.if-i-at.true

pub returns-then-i-at-2 : goal.returns-then-i-at-2
returns-then-i-at-2 c = let a = c.args in entry-there a.at a.place a.places a.i c.if-i-at.false c.if-i-at-2.true

pub returns : goal.returns
returns c = let a = c.args in entry-behind a.at a.place a.places a.i c.if-i-at.false c.if-i-at-2.false
