-- `optics::rays::fill_rays` meets its contract. Assumes nothing.
use Rattle.std.proofs.Common.{rules, arith, refl}
use Rattle.std.specs.Float.{nan}
use Rattle.lists.specs.Tab.{tab, tab-step}
use Rattle.std.proofs.Common.{ℕ, get_or}
use Rattle.optics.specs.Types.{no_ray}
use Rattle.optics.specs.Trace.{ray_of}
use Rattle.optics.proofs.rays.fill_rays.Goals as goal

pub loop-i-init : goal.loop-i-init
unfolding tab
loop-i-init c = search rules

pub loop-i-preserved : goal.loop-i-preserved
loop-i-preserved c =
    let l = c.loop-i in
    let a = c.args in
    tab-step (λ (k : ℕ). ray_of (get_or a.heights.now k nan) (get_or a.slopes.now k nan)) a.rays.now l.rays l.i _ no_ray l.invariant refl (omega arith)
