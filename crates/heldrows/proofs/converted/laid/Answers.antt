-- `heldrows::converted::laid` meets its contract. Assumes nothing.
use mathlib.Core.Path.{◌∙◌}
use mathlib.Core.List.{append-nil}
use Rattle.heldrows.proofs.converted.laid.Goals as goal

pub returns : goal.returns
returns c = c.lay_flat.ensures ∙ append-nil _
