-- `optics::kept::kept_surfaces` meets its contract. The loop's invariant: the entries passed are zero. Assumes nothing.
use mathlib.Core.Path.{ap}
use lib.ListN.{set}
use borrow.Author.Tests.{le-ltb}
use Rattle.lists.specs.Kept.{clear-begin, clear-more, clear-end, below, below-used}
use Rattle.optics.specs.Types.{no_surface, zero_surface}
use Rattle.std.proofs.Common.{rules}
use Rattle.optics.proofs.kept.kept_surfaces.Goals as goal

pub loop-i-init : goal.loop-i-init
loop-i-init c = clear-begin (below c.args.count) zero_surface no_surface c.args.surfaces c.args.count (λ k h. below-used _ k h)

pub loop-i-preserved : goal.loop-i-preserved
loop-i-preserved c =
    let x = c.args in
    clear-more (below x.count) zero_surface no_surface x.surfaces c.loop-i.invariant _
    (ap (set c.loop-i.kept c.loop-i.i) c.zero_surface.ensures) (search rules) (le-ltb _ _ c.loop-i.auto.i)

pub returns : goal.returns
returns c =
    let x = c.args in
    clear-end (below x.count) zero_surface no_surface x.surfaces c.loop-i.invariant 16 (search rules) c.loop-i-test.false
