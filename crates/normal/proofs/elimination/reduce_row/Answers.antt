-- `normal::elimination::reduce_row` meets its contract: the two parts are those of rows c and r behind column c. Assumes nothing.
use mathlib.Core.Path.{◌∙◌}
use Prim.Native.Nat.{◌-◌}
use lib.ListN.{get_or}
use lib.Ieee.{nan, binary64, div}
use Rattle.normal.specs.Loops.{part_subtracted, row_reduced}
use Rattle.normal.proofs.elimination.reduce_row.Goals as goal

pub returns : goal.returns
unfolding row_reduced
returns c =
    let x = c.args in
    let a = c.system_place-2.ensures in
    let b = c.system_place-3.ensures in
    let f = c.system_place.ensures in
    c.subtract.ensures ∙ (λ i. part_subtracted (a i) (b i) (x.p.count - x.c) (div binary64 (get_or x.scratch.now (f i) nan) x.pivot)
    x.scratch.now)
