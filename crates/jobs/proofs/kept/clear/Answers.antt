-- `jobs::kept::clear` meets its contract. The loop's invariant: the entries passed are zero. Assumes nothing.
use native.Mathlib.Omega.{arith}
use mathlib.Core.Path.{refl}
use borrow.Author.Tests.{le-ltb}
use Rattle.lists.specs.Kept.{clear-begin, clear-more, clear-end, below, below-used}
use Rattle.std.proofs.Common.{rules}
use Rattle.jobs.proofs.kept.clear.Goals as goal

pub loop-i-init : goal.loop-i-init
loop-i-init g c = λ past. clear-begin (below c.args.count) c.args.zero past c.args.entries.now _ (λ k h. below-used _ k h)

pub loop-i-preserved : goal.loop-i-preserved
loop-i-preserved g c = λ past.
    clear-more (below c.args.count) c.args.zero past c.args.entries.now (c.loop-i.invariant past) _ refl (search rules)
    (le-ltb _ _ (omega arith))

pub returns : goal.returns
returns g c = λ past. clear-end (below c.args.count) c.args.zero past c.args.entries.now (c.loop-i.invariant past) _ refl (omega arith)
