-- `normal::elimination::unknown` meets its contract: the right side less the columns passed. Assumes nothing.
use native.Mathlib.Omega.{arith}
use Rattle.normal.proofs.Turns.{right-first, right-again, unknown-is}
use Rattle.normal.proofs.elimination.unknown.Goals as goal

pub loop-k-init : goal.loop-k-init
loop-k-init c = right-first _ _ c.args.scratch.now _ c.system_place.ensures

pub loop-k-preserved : goal.loop-k-preserved
loop-k-preserved c =
    right-again _ _ c.args.scratch.now _ _ _ (omega arith) (omega arith) c.loop-k.invariant c.system_place-in-loop-k.ensures

pub returns : goal.returns
returns c =
    let l = c in
    unknown-is _ _ l.args.scratch.now _ _ _ (omega arith) l.loop-k.invariant c.system_place-2.ensures
