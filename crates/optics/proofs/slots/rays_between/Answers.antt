-- `optics::slots::rays_between` meets its contract. Assumes nothing.
use mathlib.Core.Path.{refl}
use Rattle.optics.proofs.slots.rays_between.Goals as goal

pub returns : goal.returns
returns c = refl
