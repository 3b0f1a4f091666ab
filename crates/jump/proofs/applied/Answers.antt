-- `jump::applied` meets its contract: what is summed, with what is left of the words at what is left of the bits, is the whole. Assumes nothing.
use mathlib.Core.Path.{refl}
use native.Mathlib.Omega.{arith}
use Rattle.jump.proofs.Turns.{next_bit, summed}
use Rattle.std.proofs.Common.{rules}
use Rattle.jump.proofs.applied.Goals as goal

pub loop-i-init : goal.loop-i-init
loop-i-init c = (omega arith, refl)

pub loop-i-preserved : goal.loop-i-preserved
loop-i-preserved c =
    let a = c.args in
    let l = c.loop-i in
    let inside = l.invariant.0 in
    let summed = next_bit a.tables.now a.k inside a.state l.sum l.bits l.i (search rules) l.invariant.1 in
    (inside, rw c.at_bit-sum.ensures summed)

pub returns : goal.returns
returns c =
    let a = c.args in
    let l = c.loop-i in
    summed a.tables.now a.k l.invariant.0 a.state l.sum l.bits l.i (omega arith) l.invariant.1
