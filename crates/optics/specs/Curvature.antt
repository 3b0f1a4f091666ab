-- The curvature of a surface. Definitions only.
use Rattle.std.specs.Prelude.{false, cond, ◌||◌, Float}
use Rattle.std.specs.Float.{inf, binary64}
use Rattle.std.specs.Float.Ieee.{div, lt, eq, of_bits}
use Rattle.floats.specs.Basic.{magnitude}
use Rattle.floats.specs.Constants.{zero64, one64}

-- 1e-15
abbrev pub least_radius : Float
least_radius = of_bits binary64 0x3cd2_03af_9ee7_5616

-- "Curvature is 0 for an infinite radius or one below 1e-15 in magnitude, else 1 / radius"
unfoldable pub curvature : Float → Float
curvature radius = cond (eq (magnitude radius) (inf false) || lt (magnitude radius) least_radius) zero64 (div binary64 one64 radius)
