-- Request 7: the absolute value of a number has the number's bits with the top one zero, and a NaN stays a NaN. Assumes nothing.
use Rattle.std.specs.Prelude.{◌≡◌, refl, Bool, not, ℕ, ◌+◌, ◌%◌, ◌^◌, ◌<◌, T, ℤ}
use Rattle.std.proofs.Math.Bool.{true, false}
use Rattle.std.proofs.Common.{arith}
use lib.Ieee.{Float, nan, inf, fin, binary64, fits, is_nan, to_bits}
use Rattle.std.specs.Float.Ieee.Bits.{to_bits-lt}
use Rattle.std.specs.Float.Ieee.Fits.{neg-fits}
use Rattle.floats.specs.Basic.{magnitude}

-- ---- a pattern below its top bit
with-sign : (a b : ℕ) → 9223372036854775808 + a + b < 18446744073709551616 → 0 + a + b ≡ (9223372036854775808 + a + b) % 9223372036854775808
with-sign a b h = omega arith

without : (a b : ℕ) → 9223372036854775808 + a + b < 18446744073709551616 → 0 + a + b ≡ (0 + a + b) % 9223372036854775808
without a b h = omega arith

negative_fits : (s : Bool) (m : ℕ) (e : ℤ) → T (fits binary64 (fin s m e)) → T (fits binary64 (fin true m e))
unfolding fits
negative_fits true m e t = t
negative_fits false m e t = unfold lib.Ieee.neg in neg-fits binary64 (fin false m e) t

pub magnitude-fits : (x : Float) → T (fits binary64 x) → T (fits binary64 (magnitude x))
unfolding fits magnitude
magnitude-fits nan t = tt
magnitude-fits (inf s) t = tt
magnitude-fits (fin false m e) t = t
magnitude-fits (fin true m e) t = unfold lib.Ieee.neg in neg-fits binary64 (fin true m e) t

-- "Every input gives its own bits with the top one zero, minus zero .. included"
pub magnitude-bits : (x : Float) → T (fits binary64 x) → T (not (is_nan x)) → to_bits binary64 (magnitude x) ≡ to_bits binary64 x % 2 ^ 63
unfolding to_bits is_nan magnitude
magnitude-bits nan t n = absurd n
magnitude-bits (inf true) t n = refl
magnitude-bits (inf false) t n = refl
magnitude-bits (fin true m e) t n = with-sign _ _ (to_bits-lt binary64 (fin true m e) t)
magnitude-bits (fin false m e) t n = without _ _ (to_bits-lt binary64 (fin true m e) (negative_fits false m e t))

-- ".. and NaN included, one NaN counting as any other"
pub magnitude-nan : magnitude nan ≡ nan
unfolding magnitude
magnitude-nan = refl
