-- Intervals of numbers, "worked with the same operations on interval ends". Definitions only.
use Rattle.std.specs.Prelude.{Bool, cond, ◌&&◌, T, Float}
use Rattle.std.specs.Float.{nan, binary64}
use Rattle.std.specs.Float.Ieee.{add, sub, mul, div, lt, le}
use Rattle.floats.specs.Basic.{finite_of}
use Rattle.floats.specs.Constants.{zero64}
use Rattle.intervals.specs.declared.types.Interval.{Interval}

abbrev pub ends : (low high : Float) → Interval
ends low high = record { low = low; high = high }

-- a number that is known: both ends are it
abbrev pub exactly : Float → Interval
exactly x = ends x x

-- "lands between them"
pub record Between (a : Interval) (x : Float) : Type 0 where
  pub above : T (le a.low x)
  pub below : T (le x a.high)

-- the lesser and the greater of two, "the first kept on ties"
unfoldable pub lesser : Float → Float → Float
lesser a b = cond (lt b a) b a

unfoldable pub greater : Float → Float → Float
greater a b = cond (lt a b) b a

-- "all four products compared (low × low, low × high, high × low, high × high, the first kept on ties)"
abbrev pub times : Interval → Interval → Interval
times a b =
    let p = mul binary64 a.low b.low in
    let q = mul binary64 a.low b.high in
    let r = mul binary64 a.high b.low in
    let s = mul binary64 a.high b.high in
    ends (lesser (lesser (lesser p q) r) s) (greater (greater (greater p q) r) s)

abbrev pub plus : Interval → Interval → Interval
plus a b = ends (add binary64 a.low b.low) (add binary64 a.high b.high)

abbrev pub minus : Interval → Interval → Interval
minus a b = ends (sub binary64 a.low b.high) (sub binary64 a.high b.low)

-- by a known number above zero
abbrev pub over : Interval → Float → Interval
over a n = ends (div binary64 a.low n) (div binary64 a.high n)

-- "crossed limits": the greatest is less than the least
abbrev pub crossed : Interval → Bool
crossed a = lt a.high a.low

-- no "interval end .. that is not finite"
unfoldable pub ends_finite : Interval → Bool
ends_finite a = finite_of a.low && finite_of a.high

-- the checker's default for a read past the end, and the zero of unused entries
abbrev pub no_interval : Interval
no_interval = exactly nan

abbrev pub zero_interval : Interval
zero_interval = exactly zero64
