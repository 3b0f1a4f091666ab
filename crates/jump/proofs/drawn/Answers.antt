-- `jump::drawn` meets its contract: the words before the place reached are the stored ones. Assumes nothing.
use mathlib.Core.Path.{refl}
use native.Mathlib.Omega.{arith}
use Rattle.jump.proofs.Words.{grown, all_right}
use Rattle.std.proofs.Common.{rules}
use Rattle.jump.proofs.drawn.Goals as goal

pub loop-at-init : goal.loop-at-init
loop-at-init c = record { long = refl; before = λ j l. absurd (omega arith) }

pub word_from-requires : goal.word_from-requires
word_from-requires c = (search rules, c.loop-at.invariant.long)

pub loop-at-preserved : goal.loop-at-preserved
loop-at-preserved c =
    let l = c.loop-at in
    grown l.tables l.at (omega arith) l.invariant c.word_from.result c.word_from.ensures

pub returns : goal.returns
returns c = all_right _ _ (omega arith) c.loop-at.invariant
