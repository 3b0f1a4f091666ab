-- `LaidLens::paraxial` meets its contract. Assumes nothing.
use mathlib.Core.Path.{ap, ◌∙◌}
use mathlib.Core.List.{List}
use lib.ListN.{get_or}
use Rattle.lists.specs.Tab.{get_or-tab}
use Rattle.std.specs.Prelude.{Option, None}
use Rattle.optics.specs.declared.types.ParaxialProperties.{ParaxialProperties}
use Rattle.std.proofs.Common.{rules}
use Rattle.optics.proofs.lens.LaidLens.paraxial.Goals as goal

pub returns : goal.returns
returns c =
    let slot = c.args.slot in
    ap (λ (l : List (Option ParaxialProperties)). get_or l slot None) c.paraxial_slots.ensures ∙ get_or-tab _ 4 slot None (search rules)
