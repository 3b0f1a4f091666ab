-- `intervalcalls::surfaces::worked` meets its contract. Assumes nothing.
use Rattle.optics.specs.Types.{surface_at, slot_index}
use Rattle.intervals.specs.Calls.{thickness_at}
use Rattle.intervalcalls.proofs.Working.{Working}
use mathlib.Core.Bool.{true}
use Rattle.intervalcalls.proofs.surfaces.worked.Given as goal

abbrev pub invariant-loop-k : goal.invariant-loop-k
invariant-loop-k l =
    Working (surface_at l.prescription.surfaces) (thickness_at l.limits) (slot_index l.prescription.indices l.slot)
    l.prescription.entrance_pupil_diameter_mm l.initial.heights l.initial.slopes l.heights l.slopes l.track l.ray l.arrived true l.k
