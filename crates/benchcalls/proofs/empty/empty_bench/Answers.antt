-- `benchcalls::empty::empty_bench` meets its contract. Assumes nothing.
use mathlib.Core.Path.{ap}
use lib.ListN.{replicate}
use Rattle.held.specs.declared.types.HeldRow.{HeldRow}
use Rattle.bench.specs.declared.types.Bench.{Bench}
use Rattle.benchcalls.proofs.empty.empty_bench.Goals as goal

pub returns : goal.returns
returns c = ap {B = Bench} (λ (r : HeldRow). record { rows = replicate 4 r; next_place = 0 }) c.zero_row-zero.ensures
