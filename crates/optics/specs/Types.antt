-- Values of the lens's types: the checker's default for a read past the end (`no_x`), document 01's zero (`zero_x`), one field changed (`with_x`), and surfaces
-- laid flat, four numbers each. Definitions only.
use Rattle.std.specs.Prelude.{ℕ, ◌+◌, ◌*◌, List, get_or, Float}
use Rattle.std.specs.Float.{nan}
use Rattle.floats.specs.Constants.{zero64}
use Rattle.optics.specs.declared.types.ArrivingRay.{ArrivingRay}
use Rattle.optics.specs.declared.types.LastRays.{LastRays}
use Rattle.optics.specs.declared.types.OpticalSurface.{OpticalSurface}
use Rattle.optics.specs.declared.types.ParaxialRay.{ParaxialRay}

abbrev pub no_surface : OpticalSurface
no_surface = record { radius_mm = nan; conic_constant = nan; thickness_mm = nan; semi_diameter_mm = nan }

abbrev pub no_ray : ParaxialRay
no_ray = record { y = nan; u = nan }

abbrev pub no_arriving : ArrivingRay
no_arriving = record { y = nan; u = nan; n = nan }

abbrev pub no_last : LastRays
no_last = record { before = no_ray; last = no_ray }

-- "unused entries and empty places are zero"
abbrev pub zero_surface : OpticalSurface
zero_surface = record { radius_mm = zero64; conic_constant = zero64; thickness_mm = zero64; semi_diameter_mm = zero64 }

abbrev pub with_radius : OpticalSurface → Float → OpticalSurface
with_radius s x = record {
  radius_mm = x;
  conic_constant = s.conic_constant;
  thickness_mm = s.thickness_mm;
  semi_diameter_mm = s.semi_diameter_mm;
}

abbrev pub with_conic : OpticalSurface → Float → OpticalSurface
with_conic s x = record { radius_mm = s.radius_mm; conic_constant = x; thickness_mm = s.thickness_mm; semi_diameter_mm = s.semi_diameter_mm }

abbrev pub with_thickness : OpticalSurface → Float → OpticalSurface
with_thickness s x = record {
  radius_mm = s.radius_mm;
  conic_constant = s.conic_constant;
  thickness_mm = x;
  semi_diameter_mm = s.semi_diameter_mm;
}

abbrev pub with_semi_diameter : OpticalSurface → Float → OpticalSurface
with_semi_diameter s x = record {
  radius_mm = s.radius_mm;
  conic_constant = s.conic_constant;
  thickness_mm = s.thickness_mm;
  semi_diameter_mm = x;
}

-- surface i of an array, and of surfaces laid flat
abbrev pub surface_at : List OpticalSurface → ℕ → OpticalSurface
surface_at l i = get_or l i no_surface

abbrev pub flat_surface : List Float → ℕ → OpticalSurface
flat_surface l i = record {
  radius_mm = get_or l (4 * i) nan;
  conic_constant = get_or l (4 * i + 1) nan;
  thickness_mm = get_or l (4 * i + 2) nan;
  semi_diameter_mm = get_or l (4 * i + 3) nan;
}

-- the index behind surface i in slot w
abbrev pub slot_index : List Float → ℕ → ℕ → Float
slot_index indices w i = get_or indices (i * 4 + w) nan
