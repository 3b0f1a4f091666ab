-- Constants of the code by their bit patterns, and what they are as values. Assumes nothing.
use Rattle.std.specs.Prelude.{◌≡◌, refl, true, false, not, pos, T, Float}
use Rattle.std.proofs.lemmas.Bool.{false≢true}
use Rattle.std.specs.Float.{nan, inf, fin, binary64}
use Rattle.std.specs.Float.Ieee.{neg, div, lt, le, is_nan, of_bits}

abbrev pub zero64 : Float
zero64 = of_bits binary64 0x0

abbrev pub one64 : Float
one64 = of_bits binary64 0x3ff0_0000_0000_0000

-- 0.5
abbrev pub half64 : Float
half64 = of_bits binary64 0x3fe0_0000_0000_0000

pub nought : of_bits binary64 0 ≡ fin false 0 (pos 0)
unfolding of_bits
nought = refl

-- the code writes an infinity as 1.0 / 0.0 and the NaN as 0.0 / 0.0
pub infinite : div binary64 one64 zero64 ≡ inf false
unfolding of_bits div
infinite = refl

pub minus-infinite : div binary64 (neg one64) zero64 ≡ inf true
unfolding of_bits div neg
minus-infinite = refl

pub no_number : div binary64 zero64 zero64 ≡ nan
unfolding of_bits div
no_number = refl

-- ---- what is above a constant is no NaN
pub above-number : (k x : Float) → le k x ≡ true → T (not (is_nan x))
unfolding le is_nan
above-number nan nan h = absurd (false≢true h)
above-number (inf s) nan h = absurd (false≢true h)
above-number (fin s m e) nan h = absurd (false≢true h)
above-number k (inf s) h = tt
above-number k (fin s m e) h = tt

pub over-number : (k x : Float) → lt k x ≡ true → T (not (is_nan x))
unfolding lt is_nan
over-number nan nan h = absurd (false≢true h)
over-number (inf s) nan h = absurd (false≢true h)
over-number (fin s m e) nan h = absurd (false≢true h)
over-number k (inf s) h = tt
over-number k (fin s m e) h = tt
