-- `meritcalls::calls::laid` meets its contract. Assumes nothing.
use mathlib.Core.Path.{◌∙◌, ap}
use Prim.Native.Nat.{◌*◌}
use mathlib.Core.List.{List, ◌++◌}
use lib.Ieee.{Float}
use Rattle.floats.specs.Constants.{zero64}
use Rattle.lists.specs.Tab.{drop-replicate}
use Rattle.optics.specs.Flat.{laid_flat}
use Rattle.meritcalls.proofs.calls.laid.Goals as goal

pub returns : goal.returns
returns c =
    let a = c.args in
    c.lay_flat.ensures ∙ ap (λ (l : List Float). laid_flat a.surfaces a.count ++ l) (drop-replicate zero64 (4 * a.count) 64)
