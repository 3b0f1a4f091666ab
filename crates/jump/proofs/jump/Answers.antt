-- `jump::jump` meets its contract: from the state reached, the draws of the bits that are left come to the end. Assumes nothing.
use mathlib.Core.Path.{ap, ◌∙◌}
use mathlib.Core.List.{List}
use Prim.Native.Nat.{ℕ}
use native.Mathlib.Omega.{arith}
use lib.ListN.{length}
use Rattle.jump.specs.Apply.{apply}
use Rattle.jump.specs.Jump.{row}
use Rattle.jump.proofs.JumpLaws.{table-length}
use Rattle.jump.proofs.Turns.{last-clear, begun, jumps, stands, arrived}
use Rattle.std.proofs.Common.{rules}
use Rattle.jump.proofs.jump.Goals as goal
use Rattle.jump.proofs.jump.Goals.{then-left-eq1, else-left-eq1}

pub loop-k-init : goal.loop-k-init
loop-k-init c = begun _ _ c.ranges.state.fits c.ranges.n.fits

pub applied-x-requires : goal.applied-x-requires
applied-x-requires c = (search rules, ap length c.stored-tables.ensures ∙ table-length)

-- by the way that control came: the bit is set, or it is clear
pub loop-k-preserved : goal.loop-k-preserved
loop-k-preserved c =
    let a = c.args in
    let l = c.loop-k in
    let tables = c.stored-tables.ensures in
    elim c.if-left-eq1.branch [
      | then-left-eq1 w ↦ rw (w.x-is ∙ w.applied-x.ensures ∙ ap (λ (t : List ℕ). apply (row l.k t) l.x) tables)
          (jumps a.state a.n l.x l.left l.k (search rules) w.if-left-eq1.true l.invariant)
      | else-left-eq1 w ↦ rw w.x-is (stands a.state a.n l.x l.left l.k (search rules) (last-clear l.left w.if-left-eq1.false) l.invariant)
    ]

pub returns : goal.returns
returns c = arrived _ _ _ _ _ (omega arith) c.loop-k.invariant
