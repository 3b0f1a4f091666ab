-- `optics::flat::lay_flat` meets its contract. The loop's invariant: the surfaces passed are laid flat, and the rest of the slice stands. Assumes nothing.
use mathlib.Core.Path.{◌≡◌}
use lib.ListN.{length-set}
use Rattle.optics.specs.Flat.{laid_flat}
use Rattle.optics.specs.FlatLaws.{laid_more}
use native.Mathlib.Omega.{arith}
use Rattle.std.proofs.Common.{rules}
use Rattle.optics.proofs.flat.lay_flat.Goals as goal

pub loop-k-init : goal.loop-k-init
unfolding laid_flat
loop-k-init c = search rules

pub bounds-flat-k-in-loop-k : goal.bounds-flat-k-in-loop-k
bounds-flat-k-in-loop-k c = simp length-set (omega arith)

pub bounds-flat-k-in-loop-k-2 : goal.bounds-flat-k-in-loop-k-2
bounds-flat-k-in-loop-k-2 c = simp length-set (omega arith)

pub bounds-flat-k-in-loop-k-3 : goal.bounds-flat-k-in-loop-k-3
bounds-flat-k-in-loop-k-3 c = simp length-set (omega arith)

pub loop-k-preserved : goal.loop-k-preserved
loop-k-preserved c =
    let l = c.loop-k in
    let a = c.args in
    (search rules, laid_more a.surfaces a.flat.now l.flat l.k l.invariant.1 (omega arith))

pub returns : goal.returns
returns c =
    let e : c.loop-k.k ≡ c.args.count = omega arith in
    rw e at c.loop-k.invariant.1
