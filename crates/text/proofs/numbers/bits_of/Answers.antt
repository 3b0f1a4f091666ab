-- `text::numbers::bits_of` meets its contract: only a NaN differs from itself. Assumes nothing.
use mathlib.Core.Path.{◌≡◌, refl}
use mathlib.Core.Bool.{not}
use lib.Dec.{T}
use lib.Ieee.{Float, nan, inf, fin, binary64, is_nan, to_bits}
use Rattle.text.specs.Numbers.{bits_of}
use Rattle.text.specs.Nan.{is-nan, is_number}
use Rattle.text.proofs.numbers.bits_of.Goals as goal

number-bits : (x : Float) → T (not (is_nan x)) → to_bits binary64 x ≡ bits_of x
unfolding bits_of is_nan
number-bits nan h = absurd h
number-bits (inf s) h = refl
number-bits (fin s m e) h = refl

pub returns-then-x : goal.returns-then-x
unfolding bits_of is_nan
returns-then-x c = rw (is-nan c.args.x c.if-x.true)

pub float_to_bits-result : goal.float_to_bits-result
float_to_bits-result c = is_number c.args.x c.if-x.false

pub returns : goal.returns
returns c = number-bits c.args.x (is_number c.args.x c.if-x.false)
