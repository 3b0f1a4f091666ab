-- `normal::elimination::solve_upward` meets its contract: the unknowns behind i are known. Assumes nothing.
use Prim.Native.Nat.{◌-◌}
use native.Mathlib.Omega.{arith}
use Rattle.normal.proofs.Upward.{upward-turn, upward-none, upward-all}
use Rattle.std.proofs.Common.{rules}
use Rattle.normal.proofs.elimination.solve_upward.Goals as goal

pub loop-i-init : goal.loop-i-init
loop-i-init c = upward-none _ _

pub loop-i-preserved : goal.loop-i-preserved
loop-i-preserved c =
    let l = c in
    let x = l.args in
    upward-turn x.p.count (l.loop-i.i - 1) l.loop-i.i x.scratch.now l.loop-i.scratch _ (omega arith)
    (omega arith) (search rules) (search rules) l.loop-i.invariant c.unknown.ensures

pub returns : goal.returns
returns c =
    let x = c.args in
    upward-all x.p.count c.loop-i.i x.scratch.now c.loop-i.scratch (omega arith) c.loop-i.invariant
