-- `held::flat::copy` meets its contract. The loop's invariant: the numbers passed are copied, and the rest stands. Assumes nothing.
use mathlib.Core.Path.{◌≡◌, refl}
use Prim.Native.Nat.{ℕ}
use lib.Ieee.{nan}
use lib.ListN.{get_or}
use native.Mathlib.Omega.{arith}
use Rattle.lists.specs.Tab.{tab, tab-step}
use Rattle.held.proofs.Stored.{standing-copied, behind-copied}
use Rattle.std.proofs.Common.{rules}
use Rattle.held.proofs.flat.copy.Goals as goal

pub loop-i-init : goal.loop-i-init
unfolding tab
loop-i-init c = (refl, refl)

pub loop-i-preserved : goal.loop-i-preserved
loop-i-preserved c =
    let l = c.loop-i in
    let a = c.args in
    (search rules, tab-step (λ (k : ℕ). get_or a.flat.now k nan) a.to.now l.to l.i _ nan l.invariant.1 refl (omega (arith, l.invariant.0)))

pub returns : goal.returns
returns c =
    let l = c.loop-i in
    let a = c.args in
    let e : l.i ≡ 64 = omega arith in
    let copied = rw e at l.invariant.1 in
    record {
      fact_1 = standing-copied a.flat.now a.to.now l.to copied;
      fact_2 = behind-copied a.flat.now a.to.now l.to copied (omega arith) l.invariant.0;
    }
