-- E, document 01's stand-in for Rust's `exp`, whose bits are not fixed: IEEE 754's operations on `f64` in a fixed order. Definitions only.
use Rattle.std.specs.Prelude.{ℕ, zero, suc, cond, ◌||◌, pos, Float}
use Rattle.std.specs.Float.{binary64}
use Rattle.std.specs.Float.Ieee.{add, mul, div, neg, lt, is_nan, of_int, of_bits}
use Rattle.floats.specs.Constants.{zero64, one64}

-- 700.0 and 1024.0
abbrev pub seven_hundred : Float
seven_hundred = of_bits binary64 0x4085_e000_0000_0000

abbrev pub two_to_ten : Float
two_to_ten = of_bits binary64 0x4090_0000_0000_0000

-- "for k = 16 down to 1 take s = 1 + (y × s) / k": for each k from the first argument down to 1
unfoldable pub series : ℕ → Float → Float → Float
series zero y s = s
series (suc k) y s = series k y (add binary64 one64 (div binary64 (mul binary64 y s) (of_int binary64 (pos (suc k)))))

-- "then square s ten times": as often as the first argument says
unfoldable pub squares : ℕ → Float → Float
squares zero s = s
squares (suc k) s = squares k (mul binary64 s s)

-- "E gives 0 below -700 and 1 for NaN or above zero; otherwise y is the argument / 1024, s starts at 1, ..."
unfoldable pub exp_of : Float → Float
exp_of x =
    cond (lt x (neg seven_hundred)) zero64
    (cond (is_nan x || lt zero64 x) one64
    (squares 10 (series 16 (div binary64 x two_to_ten) one64)))
