-- Focal length, back focus and f-number of one wavelength slot: "as in `calculate_paraxial_properties`". Definitions only.
use Rattle.std.specs.Prelude.{ℕ, ◌-◌, Bool, false, cond, ◌&&◌, ltb, Float, Option, Some, None}
use Rattle.std.specs.Float.{inf, binary64}
use Rattle.std.specs.Float.Ieee.{neg, sub, div, lt, eq, of_bits}
use Rattle.floats.specs.Basic.{magnitude}
use Rattle.floats.specs.Constants.{zero64}
use Rattle.optics.specs.Curvature.{curvature}
use Rattle.optics.specs.Trace.{start, ray_of, ray_at}
use Rattle.optics.specs.declared.types.ArrivingRay.{ArrivingRay}
use Rattle.optics.specs.declared.types.LastRays.{LastRays}
use Rattle.optics.specs.declared.types.OpticalSurface.{OpticalSurface}
use Rattle.optics.specs.declared.types.ParaxialProperties.{ParaxialProperties}
use Rattle.optics.specs.declared.types.ParaxialRay.{ParaxialRay}

-- below 1e-12 in magnitude
abbrev pub negligible : Float → Bool
negligible x = lt (magnitude x) (of_bits binary64 0x3d71_9799_812d_ea11)

-- the last surface is a detector: the same index on both sides, flat, and no thickness behind it (-0.0 is none too)
abbrev pub ends_in_detector : (surface : ℕ → OpticalSurface) (index : ℕ → Float) → ℕ → Bool
ends_in_detector surface index count =
    negligible (sub binary64 (index (count - 2)) (index (count - 1)))
    && negligible (curvature (surface (count - 1)).radius_mm)
    && eq (surface (count - 1)).thickness_mm zero64

-- from height y along the slope u to the axis
abbrev pub crossing : (y u : Float) → Float
crossing y u = div binary64 (neg y) u

-- how far behind its surface a ray meets the axis
abbrev pub focus_of : ParaxialRay → Float
focus_of r = cond (negligible r.u) (inf false) (crossing r.y r.u)

-- out of the height at the first surface, the ray of the last, and the ray that the back focus is measured along
abbrev pub properties_from : (height pupil : Float) (last back : ParaxialRay) → ParaxialProperties
properties_from height pupil last back =
    cond (negligible last.u)
    (record { efl_mm = inf false; bfl_mm = inf false; f_number = inf false })
    (record { efl_mm = crossing height last.u; bfl_mm = focus_of back; f_number = div binary64 (magnitude (crossing height last.u)) pupil })

-- the rays at the last two of at least two surfaces
abbrev pub last_rays : (surface : ℕ → OpticalSurface) (index : ℕ → Float) (pupil : Float) → ℕ → LastRays
last_rays surface index pupil count = record { before = ray_at surface index pupil (count - 2); last = ray_at surface index pupil (count - 1) }

-- the records of two surfaces, out of a ray as it arrives at each and behind the second
abbrev pub rays_between : (first second third : ArrivingRay) → LastRays
rays_between first second third = record { before = ray_of first.y second.u; last = ray_of second.y third.u }

-- for at least two surfaces, out of the rays at the last two; before a detector the back focus is that of the surface in front of it
abbrev pub properties_behind : LastRays → (surface : ℕ → OpticalSurface) (index : ℕ → Float) (pupil : Float) → ℕ → ParaxialProperties
properties_behind rays surface index pupil count =
    properties_from (start pupil).y pupil rays.last (cond (ends_in_detector surface index count) rays.before rays.last)

abbrev pub properties_of : (surface : ℕ → OpticalSurface) (index : ℕ → Float) (pupil : Float) → ℕ → ParaxialProperties
properties_of surface index pupil count = properties_behind (last_rays surface index pupil count) surface index pupil count

-- "Fewer than two surfaces is a failed trace."
unfoldable pub paraxial_of : (surface : ℕ → OpticalSurface) (index : ℕ → Float) (pupil : Float) → ℕ → Option ParaxialProperties
paraxial_of surface index pupil count = cond (ltb count 2) None (Some (properties_of surface index pupil count))
