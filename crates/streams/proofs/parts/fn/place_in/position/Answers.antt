-- The closure of `streams::parts::place_in` meets its contract. Assumes nothing.
use mathlib.Core.Path.{refl}
use Rattle.streams.proofs.parts.fn.place_in.position.Goals as goal

pub returns : goal.returns
returns c = refl
