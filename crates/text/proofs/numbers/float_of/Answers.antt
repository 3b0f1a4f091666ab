-- `text::numbers::float_of` meets its contract: the patterns above the infinity's, the sign's bit taken off, are the NaN's, and `of_bits` reads each as `nan`.
-- Assumes nothing.
use mathlib.Core.Path.{◌≡◌, refl, sym, ◌∙◌, subst}
use mathlib.Core.Bool.{Bool, true, not, false≢true}
use lib.Dec.{T}
use lib.Ieee.{Float, nan, inf, fin, binary64, is_nan, of_bits, div}
use lib.Ieee.Bits.{nan_bits_above, nan_bits_is}
use borrow.Author.Tests.{lt-ltb, le-ltb}
use Rattle.text.proofs.numbers.float_of.Goals as goal

is-nan : (x : Float) → is_nan x ≡ true → nan ≡ x
unfolding is_nan
is-nan nan h = refl
is-nan (inf s) h = absurd (false≢true h)
is-nan (fin s m e) h = absurd (false≢true h)

pub float_from_bits-result : goal.float_from_bits-result
float_from_bits-result c =
    subst (λ (b : Bool). T (not b)) (sym (nan_bits_above binary64 _ ∙ le-ltb _ _ c.if-bits-gt9218868437227405312.false)) tt

pub returns-then-bits-gt9218868437227405312 : goal.returns-then-bits-gt9218868437227405312
unfolding of_bits div
returns-then-bits-gt9218868437227405312 c =
    let n = c.args.bits in
    is-nan (of_bits binary64 n) (sym (nan_bits_is binary64 n) ∙ nan_bits_above binary64 n ∙ lt-ltb _ _ c.if-bits-gt9218868437227405312.true)
