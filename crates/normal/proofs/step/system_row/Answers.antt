-- `normal::step::system_row` meets its contract: the loop writes the row from its first entry on; what it reads lies outside. Assumes nothing.
use mathlib.Core.Path.{◌≡◌}
use Prim.Native.Nat.{◌+◌}
use native.Mathlib.Omega.{arith}
use Rattle.lists.specs.Tab.{tab}
use Rattle.normal.specs.Loops.{with_system_row}
use Rattle.normal.proofs.System.{row-turn}
use Rattle.std.proofs.Common.{rules}
use Rattle.normal.proofs.step.system_row.Goals as goal

pub loop-j-init : goal.loop-j-init
unfolding tab
loop-j-init c = search rules

pub loop-j-preserved : goal.loop-j-preserved
loop-j-preserved c =
    let l = c in
    let x = l.args in
    row-turn x.scratch.now l.loop-j.scratch x.p.count x.i l.loop-j.j _ x.damping _ (search rules)
    (omega arith) (search rules) l.system_place-first.ensures l.loop-j.invariant c.system_entry.ensures

pub returns : goal.returns
unfolding with_system_row
returns c =
    let e : c.loop-j.j ≡ c.args.p.count + 1 = omega arith in
    rw e at c.loop-j.invariant
