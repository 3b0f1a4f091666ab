-- `LaidLens::trace_heights` meets its contract. The loop's invariant: the ray is the one that arrives at surface k, and the slices hold the heights and
-- slopes of the surfaces passed. Assumes nothing.
use mathlib.Core.Path.{◌≡◌}
use Prim.Native.Nat.{ℕ}
use lib.Ieee.{Float, nan}
use Rattle.lists.specs.Tab.{tab, tab-step}
use Rattle.optics.specs.Laid.{lens_surface, lens_index}
use Rattle.optics.specs.Trace.{arriving, ray_at}
use Rattle.optics.specs.TraceLaws.{arriving-more, ray-turned}
use Rattle.optics.specs.declared.types.OpticalSurface.{OpticalSurface}
use native.Mathlib.Omega.{arith}
use Rattle.std.proofs.Common.{rules}
use Rattle.optics.proofs.lens.LaidLens.trace_heights.Goals as goal

pub loop-k-init : goal.loop-k-init
unfolding arriving tab
loop-k-init c = search rules

pub loop-k-preserved : goal.loop-k-preserved
loop-k-preserved c =
    let a = c.args in
    let l = c.loop-k in
    let surface : ℕ → OpticalSurface = lens_surface a.self.now in
    let index : ℕ → Float = lens_index a.self.now a.slot in
    let turned = ray-turned surface index a.self.now.pupil l.k l.ray c.next_ray-ray.result l.invariant.2 c.next_ray-ray.ensures in (
      search rules,
      search rules,
      arriving-more surface index a.self.now.pupil l.k l.ray c.next_ray-ray.result l.invariant.2 c.next_ray-ray.ensures,
      tab-step (λ (k : ℕ). (ray_at surface index a.self.now.pupil k).y) a.heights.now l.heights l.k _ nan l.invariant.3 (λ i. (turned i).y) (omega arith),
      tab-step (λ (k : ℕ). (ray_at surface index a.self.now.pupil k).u) a.slopes.now l.slopes l.k _ nan l.invariant.4 (λ i. (turned i).u) (omega arith),
    )

pub returns : goal.returns
returns c =
    let e : c.loop-k.k ≡ c.args.self.now.surfaces.count = omega arith in
    record { heights_after = rw e at c.loop-k.invariant.3; slopes_after = rw e at c.loop-k.invariant.4 }
