-- `LaidLens::arriving_rays` meets its contract. The loop's invariant: the rays are those that arrive at surface k. Assumes nothing.
use mathlib.Core.Path.{◌≡◌}
use native.Mathlib.Omega.{arith}
use Rattle.lists.specs.Tab.{tab}
use Rattle.optics.specs.Laid.{lens_surface, lens_index}
use Rattle.optics.proofs.AllSlots.{starting, arriving-next}
use Rattle.optics.proofs.lens.LaidLens.arriving_rays.Goals as goal

pub loop-k-init : goal.loop-k-init
unfolding tab
loop-k-init c =
    let a = c.args in
    starting (lens_surface a.self.now) (lens_index a.self.now) a.self.now.pupil _ c.start_of-rays.ensures

pub loop-k-preserved : goal.loop-k-preserved
loop-k-preserved c =
    let a = c.args in
    arriving-next (lens_surface a.self.now) (lens_index a.self.now) a.self.now.pupil _ _ _ c.loop-k.invariant c.next_rays-next.ensures

pub returns : goal.returns
returns c =
    let l = c.loop-k in
    let e : l.k ≡ c.args.to = omega arith in
    rw e at l.invariant
