-- `intervalcalls::surfaces::worked` meets its contract. Assumes nothing.
use mathlib.Core.Path.{◌≡◌, refl, sym, ap, ◌∙◌}
use mathlib.Core.Bool.{Bool, true, false, ◌&&◌}
use Prim.Native.Nat.{◌<◌}
use native.Mathlib.Omega.{arith}
use lib.ListN.{replicate}
use Rattle.intervals.specs.Interval.{ends_finite}
use Rattle.intervals.specs.declared.types.Interval.{Interval}
use Rattle.intervalcalls.proofs.Working.{first, another, unfinished, given_up, finished}
use Rattle.std.proofs.Common.{rules}
use Rattle.intervalcalls.proofs.surfaces.worked.Goals as goal

pub loop-k-init : goal.loop-k-init
loop-k-init c = first _ _ _ _ _ _ _ _ _ c.exact-zero.ensures c.start_of-ray.ensures c.ends_finite-arrived.ensures

pub loop-k-preserved : goal.loop-k-preserved
loop-k-preserved c =
    let l = c.loop-k in
    let finite : ((l.arrived && c.passed-next.result.refracted) && ends_finite c.sum-track.result) ≡ true =
    ap (λ (b : Bool). (l.arrived && c.passed-next.result.refracted) && b) (sym c.ends_finite.ensures) ∙ c.if-not-arrived-next.false in
    another _ _ _ _ _ _ l.invariant (search rules) (search rules) _ _ _ c.passed-next.ensures c.sum-track.ensures (sym finite)

pub returns-then-not-arrived-next : goal.returns-then-not-arrived-next
returns-then-not-arrived-next c =
    let x = c.args in
    let l = c.loop-k in
    let more : l.k < x.prescription.surface_count = omega arith in
    let finite : ((l.arrived && c.passed-next.result.refracted) && ends_finite c.sum-track.result) ≡ false =
    ap (λ (b : Bool). (l.arrived && c.passed-next.result.refracted) && b) (sym c.ends_finite.ensures) ∙ c.if-not-arrived-next.true in
    given_up x.prescription x.limits x.slot l.k more
    (unfinished _ _ _ _ _ _ l.invariant (search rules) (search rules) _ _ _ c.passed-next.ensures c.sum-track.ensures refl ∙ finite)

pub returns : goal.returns
returns c =
    let x = c.args in
    let l = c.loop-k in
    let e : l.k ≡ x.prescription.surface_count = omega arith in
    let zeros = ap (λ (z : Interval). replicate 16 z) c.exact-zero.ensures in
    finished x.prescription x.limits x.slot _ _ _ _ _ _ _ zeros zeros (rw e at l.invariant)
