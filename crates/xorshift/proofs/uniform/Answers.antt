-- `xorshift::uniform` meets its contract. Assumes nothing.
use mathlib.Core.Path.{refl}
use Rattle.xorshift.specs.Draws.{uniform_of}
use Rattle.xorshift.proofs.uniform.Goals as goal

pub returns : goal.returns
unfolding uniform_of
returns c = refl
