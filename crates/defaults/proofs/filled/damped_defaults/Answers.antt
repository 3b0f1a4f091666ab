-- `defaults::filled::damped_defaults` meets its contract, by the numbers themselves. Assumes nothing.
use mathlib.Core.Path.{refl}
use Rattle.defaults.proofs.filled.damped_defaults.Goals as goal

pub returns : goal.returns
returns c = refl
