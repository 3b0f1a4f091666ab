-- Numbers as text. Definitions only.
use Rattle.std.specs.Prelude.{ℕ, ◌+◌, ◌-◌, ◌*◌, ◌^◌, Bool, true, false, cond, List, [], ◌∷◌, length, ltb, eqb, Float, Option, Some, None}
use Rattle.std.specs.Float.{binary64}
use Rattle.std.specs.Float.Ieee.{is_nan, to_bits}
use Rattle.text.specs.Words.{between}

-- what a digit counts: `0` to `9`, and `a` to `f` in either case; 16 for any other byte
unfoldable pub digit_of : ℕ → ℕ
digit_of b =
    cond (between 48 57 b) (b - 48)
    (cond (between 97 102 b) (b - 97 + 10) (cond (between 65 70 b) (b - 65 + 10) 16))

abbrev pub if_good : Bool → Option ℕ → Option ℕ
if_good true n = n
if_good false n = None

-- the number whose digits so far make `total` and go on with these, where each is a digit of the base and the number is below 2 ^ 64
unfoldable pub digits_from : ℕ → ℕ → List ℕ → Option ℕ
digits_from base total [] = Some total
digits_from base total (b ∷ rest) =
    if_good (ltb (digit_of b) base)
    (if_good (ltb (total * base + digit_of b) (2 ^ 64)) (digits_from base (total * base + digit_of b) rest))

-- a number in hexadecimal has sixteen digits, and any other one at least
abbrev pub is_long : (base length : ℕ) → Bool
is_long base length = cond (eqb base 16) (eqb length 16) (ltb 0 length)

-- the number that a text is in a base
abbrev pub number_of : ℕ → List ℕ → Option ℕ
number_of base text = if_good (is_long base (length text)) (digits_from base 0 text)

-- the bits of a float, one pattern for all NaN
unfoldable pub bits_of : Float → ℕ
bits_of x = cond (is_nan x) 0x7ff8_0000_0000_0000 (to_bits binary64 x)
