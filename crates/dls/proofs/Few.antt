-- No more variables are enabled than a held job has: named in the attribute of each function whose goals need it. Assumes nothing.
use mathlib.Core.List.{List}
use Prim.Native.Nat.{ℕ, ◌≤◌}
use lib.Ieee.{Float}
use Rattle.variables.specs.Active.{num_active}
use Rattle.variables.proofs.CallerLaws.{active-le}
use Rattle.held.specs.JobFrom.{variable_count_from, variables_from}

pub few : (counts : List ℕ) (numbers : List Float) → num_active (variables_from counts numbers) ≤ variable_count_from counts
few counts numbers = active-le (variables_from counts numbers)
