-- `normal::elimination::eliminate` meets its contract: a turn does one column (`Stage`). Assumes nothing.
use mathlib.Core.Path.{◌≡◌}
use native.Mathlib.Omega.{arith}
use Rattle.normal.proofs.Stages.{stage-none, stage-all, stage-stop, stage-more}
use Rattle.std.proofs.Common.{rules}
use Rattle.normal.proofs.elimination.eliminate.Goals as goal

pub loop-c-init : goal.loop-c-init
loop-c-init c = stage-none _ _

pub returns-then-pivot : goal.returns-then-pivot
returns-then-pivot c =
    let b = c.bring_pivot-pivot in
    let l = c in
    let x = l.args in
    stage-stop x.p.count l.loop-c.c x.scratch.now l.loop-c.scratch b.new.scratch b.result l.loop-c.invariant (omega arith) (search rules) (search rules)
    b.ensures.fact_2 b.ensures.fact_1 c.if-pivot.true

pub loop-c-preserved : goal.loop-c-preserved
loop-c-preserved c =
    let b = c.bring_pivot-pivot in
    let l = c in
    let x = l.args in
    stage-more x.p.count l.loop-c.c x.scratch.now l.loop-c.scratch b.new.scratch b.result l.loop-c.invariant (omega arith) (search rules)
    (search rules) b.ensures.fact_2 b.ensures.fact_1 _ c.if-pivot.false c.reduce_below.ensures

pub returns : goal.returns
returns c =
    let l = c in
    let x = l.args in
    let e : l.loop-c.c ≡ x.p.count = omega arith in
    stage-all x.p.count x.scratch.now l.loop-c.scratch (rw e at l.loop-c.invariant)
