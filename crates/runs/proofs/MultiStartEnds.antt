-- How long a multi-start run takes, and what holds at its end, given that of its damped runs. Assumes nothing.
use Rattle.std.specs.Prelude.{Bool, cond}
use Rattle.std.proofs.Math.Bool.{true, false}
use Prim.Native.Nat.{ℕ, zero, suc, ◌+◌, ◌*◌}
use Rattle.std.proofs.Common.{arith}
use Rattle.xorshift.specs.Xorshift.{seeded}
use Rattle.merit.specs.declared.types.MeritEvaluation.{MeritEvaluation}
use Rattle.runs.specs.declared.types.OptimizationResult.{OptimizationResult}
use Rattle.runs.specs.Run.{Surfaces}
use Rattle.runs.proofs.Ends.{Ends, now, Ends-more, Ends-bind}
use Rattle.runs.specs.DampedRun.{Optimizer, damped}
use Rattle.runs.specs.MultiStartRun.{Best, none, some, the_best, is_lower, merged, after_draws, trial_presc, trials, multi_start}

module _ (o : Optimizer) (base : Surfaces) (Q : Surfaces → MeritEvaluation → Type 0) (P : OptimizationResult → Type 0) (B : ℕ)
    (each : (rng : ℕ) → Ends Q P B (damped o (trial_presc o base rng))) where
  merged-is : (best result : OptimizationResult) → P best → P result → P (merged (some best) result)
  unfolding merged
  merged-is best result p q = go (is_lower result best)
    where
      go : (b : Bool) → P (cond b result best)
      go true = q
      go false = p

  abbrev Some : Best → Type 0
  Some none = ⊥
  Some (some best) = P best

  ends-trials : (left rng : ℕ) (best : OptimizationResult) → P best → Ends Q Some (left * B) (trials o base left rng (some best))
  unfolding trials
  ends-trials zero rng best h = now h
  ends-trials (suc left) rng best h =
      Ends-more (suc left * B) (omega arith)
      (Ends-bind (left * B) _ (each rng) λ result q. ends-trials left (after_draws o.variables rng) (merged (some best) result) (merged-is best result h q))

  the-best : (best : Best) → Some best → P (the_best best)
  the-best none h = absurd h
  the-best (some best) h = h

  pub ends-multi_start : (n seed : ℕ) → Ends Q P B (damped o base) → Ends Q P ((1 + n) * B) (multi_start o base n seed)
  unfolding multi_start merged
  ends-multi_start n seed first =
      Ends-more ((1 + n) * B) (omega arith)
      (Ends-bind (n * B + 0) _ first λ result q.
      Ends-bind 0 _ (ends-trials n (seeded seed) result q) λ best h. now (the-best best h))
