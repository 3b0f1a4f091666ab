-- Rust's `abs`, `clamp`, `max`, `min` and `is_finite` on an `f64`. Definitions only.
use Rattle.std.specs.Prelude.{Bool, true, false, cond, Float}
use Rattle.std.specs.Float.{nan, inf, fin}
use Rattle.std.specs.Float.Ieee.{lt, is_nan}

-- "Absolute value clears the sign, also of minus zero."
unfoldable pub magnitude : Float → Float
magnitude nan = nan
magnitude (inf s) = inf false
magnitude (fin s m e) = fin false m e

-- "Clamp gives the lower bound below it, the upper above it, else the number": a NaN goes through, and so does a number equal to a bound.
abbrev pub clamp_of : Float → Float → Float → Float
clamp_of x lo hi = cond (lt x lo) lo (cond (lt hi x) hi x)

-- as in Rust, a NaN gives way to the other number
abbrev pub max_of : Float → Float → Float
max_of x y = cond (is_nan x) y (cond (lt x y) y x)

abbrev pub min_of : Float → Float → Float
min_of x y = cond (is_nan x) y (cond (lt y x) y x)

-- neither a NaN nor an infinity
unfoldable pub finite_of : Float → Bool
finite_of nan = false
finite_of (inf s) = false
finite_of (fin s m e) = true
