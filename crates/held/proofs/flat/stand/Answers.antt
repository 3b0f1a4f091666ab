-- `held::flat::stand` meets its contract: the loop's invariant: the first i surfaces stand. Assumes nothing.
use mathlib.Core.Path.{refl}
use native.Mathlib.Omega.{arith}
use Rattle.lists.specs.Tab.{tab, tab-step, tab-full}
use Rattle.optics.specs.Types.{no_surface, flat_surface}
use Rattle.held.specs.JobFrom.{standing}
use Rattle.held.proofs.flat.stand.Goals as goal

pub loop-i-init : goal.loop-i-init
unfolding tab
loop-i-init c = refl

pub loop-i-preserved : goal.loop-i-preserved
loop-i-preserved c =
    tab-step (flat_surface c.args.flat.now) _ c.loop-i.surfaces
    c.loop-i.i _ no_surface c.loop-i.invariant c.surface_at.ensures (omega arith)

pub returns : goal.returns
unfolding standing
returns c =
    tab-full (flat_surface c.args.flat.now) _ c.loop-i.surfaces c.loop-i.i 16 c.loop-i.invariant
    refl (omega arith) (omega arith)
