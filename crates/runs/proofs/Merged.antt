-- What a trial's result is merged into is not above it. Assumes nothing.
use Rattle.std.specs.Prelude.{Bool, true, false, not, cond, T}
use Rattle.std.specs.Float.Ieee.{lt, le}
use Rattle.floatlaws.specs.Order.{Number, le-self, not-lt→le}
use Rattle.runs.specs.declared.types.OptimizationResult.{OptimizationResult}
use Rattle.runs.specs.MultiStartRun.{some, is_lower, merged}

-- what is merged in is not below what comes out
pub merged-result : (best result : OptimizationResult) → Number best.final_merit → Number result.final_merit
    → T (le (merged (some best) result).final_merit result.final_merit)
unfolding merged is_lower
merged-result best result p q =
    go (lt result.final_merit best.final_merit) (not-lt→le result.final_merit best.final_merit q p)
  where
    go : (b : Bool) → (T (not b) → T (le best.final_merit result.final_merit))
        → T (le (cond b result best).final_merit result.final_merit)
    go true h = le-self result.final_merit q
    go false h = h tt
