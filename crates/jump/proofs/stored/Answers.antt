-- `jump::stored` meets its contract: the words of the code are those of the definition, compared here. Assumes nothing.
use mathlib.Core.Path.{refl}
use Rattle.jump.specs.Table.{table}
use Rattle.jump.proofs.stored.Goals as goal

pub returns : goal.returns
unfolding table
returns c = refl
