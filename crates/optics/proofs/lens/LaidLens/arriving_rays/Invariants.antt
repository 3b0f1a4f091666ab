-- `LaidLens::arriving_rays` meets its contract. The loop's invariant: the rays are those that arrive at surface k. Assumes nothing.
use Rattle.optics.specs.Laid.{lens_surface, lens_index}
use Rattle.optics.proofs.AllSlots.{Arriving}
use Rattle.optics.proofs.lens.LaidLens.arriving_rays.Given as goal

abbrev pub invariant-loop-k : goal.invariant-loop-k
invariant-loop-k l = Arriving (lens_surface l.self) (lens_index l.self) l.self.pupil l.k l.rays
