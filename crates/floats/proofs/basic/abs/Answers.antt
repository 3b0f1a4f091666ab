-- `floats::basic::abs` meets its contract. Assumes nothing.
use mathlib.Core.Path.{sym, subst}
use lib.Dec.{T}
use Rattle.floats.proofs.Cleared.{bits-number, given-magnitude}
use Rattle.floats.proofs.basic.abs.Goals as goal

pub float_from_bits-given : goal.float_from_bits-given
float_from_bits-given c = bits-number c.args.x (subst T (sym c.well_formed.0.1) tt)

pub returns : goal.returns
returns c = given-magnitude c.args.x (subst T (sym c.well_formed.0.1) tt)
