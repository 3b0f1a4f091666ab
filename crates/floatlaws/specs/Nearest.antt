-- What it is for r to be the `f64` nearest to the square root of x, said without real numbers. Definitions only.
-- r is nearest where, seen from it, the midpoint of r and any other y lies beyond the root:
-- for a y above r, 4 x < (r + y) ^ 2; for a y below r, (r + y) ^ 2 < 4 x.
-- Both are strict: no root is midway between two `f64`. Each number is a fraction `num` / `den`, and the denominators are multiplied out.
-- `nearest` (NearestRoot.antt): the square root of `floats` is it. `only-nearest` (OnlyNearest.antt): there is one at most.
use Rattle.std.specs.Prelude.{ℕ, ◌+◌, ◌*◌, ◌<◌, Bool, false, not, T, Float}
use Rattle.std.specs.Float.{nan, inf, fin, binary64}
use Rattle.std.specs.Float.Ieee.{lt, fits}
use Rattle.std.specs.Float.Ieee.Positive.{num, den, positive}

-- finite, and not negative
abbrev pub unsigned : Float → Bool
unsigned nan = false
unsigned (inf s) = false
unsigned (fin s m e) = not s

-- the square of r + y, over the square of both denominators
abbrev pub together : Float → Float → ℕ
together r y = (num r * den y + num y * den r) * (num r * den y + num y * den r)

abbrev pub both : Float → Float → ℕ
both r y = den r * den y * (den r * den y)

-- r is an `f64`, finite and above zero, and nearer to the root than every other
pub record Nearest (x r : Float) : Type 0 where
  pub fitting : T (fits binary64 r)
  pub above_zero : T (positive r)
  pub above : (y : Float) → T (fits binary64 y) → T (unsigned y) → T (lt r y) → 4 * num x * both r y < together r y * den x
  pub below : (y : Float) → T (fits binary64 y) → T (unsigned y) → T (lt y r) → together r y * den x < 4 * num x * both r y
