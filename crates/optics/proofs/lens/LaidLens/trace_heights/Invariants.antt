-- `LaidLens::trace_heights` meets its contract. The loop's invariant: the ray is the one that arrives at surface k, and the slices hold the heights and
-- slopes of the surfaces passed. Assumes nothing.
use mathlib.Core.Path.{◌≡◌}
use Prim.Native.Nat.{ℕ}
use mathlib.Core.List.{◌++◌}
use lib.ListN.{length, drop}
use Rattle.lists.specs.Tab.{tab}
use Rattle.optics.specs.Laid.{lens_surface, lens_index}
use Rattle.optics.specs.Trace.{arriving, ray_at}
use Rattle.optics.proofs.lens.LaidLens.trace_heights.Given as goal

abbrev pub invariant-loop-k : goal.invariant-loop-k
invariant-loop-k l = (length l.heights ≡ length l.initial.heights) ×
    (length l.slopes ≡ length l.initial.slopes) ×
    (l.ray ≡ arriving (lens_surface l.self) (lens_index l.self l.slot) l.self.pupil l.k) ×
    (l.heights ≡ tab (λ (k : ℕ). (ray_at (lens_surface l.self) (lens_index l.self l.slot) l.self.pupil k).y) l.k ++ drop l.k l.initial.heights) ×
    (l.slopes ≡ tab (λ (k : ℕ). (ray_at (lens_surface l.self) (lens_index l.self l.slot) l.self.pupil k).u) l.k ++ drop l.k l.initial.slopes)
