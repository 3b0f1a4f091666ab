-- `xorshift::unit_of` meets its contract. Assumes nothing.
use Prim.Native.Nat.{◌^◌, ◌/◌}
use lib.Dec.{le→leb}
use lib.Pow.{shr_lt}
use native.Mathlib.Nat.{le_of_lt}
use lib.Ieee.{in_float, of_bits}
use Rattle.xorshift.specs.Draws.{unit_of}
use Rattle.std.proofs.Common.{rules}
use Rattle.xorshift.proofs.unit_of.Goals as goal

-- the top 53 bits of a word are a whole number that an f64 holds

pub int_to_float-result : goal.int_to_float-result
unfolding in_float
int_to_float-result c = le→leb (c.args.x / 2 ^ 11) (2 ^ 53) (le_of_lt (shr_lt 53 11 (search rules)))

pub returns : goal.returns
unfolding unit_of of_bits
returns c = search rules
