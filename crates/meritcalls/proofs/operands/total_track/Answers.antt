-- `meritcalls::operands::total_track` meets its contract. Assumes nothing.
use mathlib.Core.Path.{◌≡◌, refl}
use native.Mathlib.Numerals.{add-one}
use Rattle.merit.specs.Operands.{track}
use native.Mathlib.Omega.{arith}
use Rattle.meritcalls.proofs.operands.total_track.Goals as goal

pub loop-k-init : goal.loop-k-init
unfolding track
loop-k-init c = refl

pub loop-k-preserved : goal.loop-k-preserved
unfolding track
loop-k-preserved c = rw (add-one, ← c.loop-k.invariant)

pub returns : goal.returns
returns c =
    let e : c.loop-k.k ≡ c.args.surfaces.now.count = omega arith in
    rw e at c.loop-k.invariant
