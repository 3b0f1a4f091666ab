-- What a trace leaves of what was lent. Definitions only.
use Rattle.std.specs.Prelude.{ℕ, min, List, ◌++◌, take, drop}
use Rattle.merit.specs.Calls.{traced_rays}
use Rattle.optics.specs.declared.types.OpticalPrescription.{OpticalPrescription}
use Rattle.optics.specs.declared.types.ParaxialRay.{ParaxialRay}

-- a trace into the first `length` records of a row, which stay unless it is done
abbrev pub rays_over : OpticalPrescription → ℕ → List ParaxialRay → ℕ → List ParaxialRay
rays_over prescription slot old length = let n = min length 16 in traced_rays prescription slot (take n old) ++ drop n old
