-- `rows::zeros::zero_row` meets its contract. Assumes nothing.
use mathlib.Core.Path.{refl}
use Rattle.lists.specs.Tab.{tab}
use Rattle.optics.specs.Flat.{laid_flat}
use Rattle.held.specs.Written.{held_counts, held_numbers, in_turn}
use Rattle.bench.specs.Benches.{zero_row}
use Rattle.rows.proofs.zeros.zero_row.Goals as goal

pub returns : goal.returns
unfolding zero_row held_counts held_numbers in_turn laid_flat tab
returns c = refl
