-- `held::types::HeldHead::of` meets its contract. The check finds it alone; with this answer a wrong entry is refused as one.
use mathlib.Core.Path.{refl}
use Rattle.held.proofs.types.HeldHead.of.Goals as goal

pub returns : goal.returns
returns c = refl
