-- A multi-start run ends no higher than its base run, whatever the evaluation. Assumes nothing.
use Rattle.std.specs.Prelude.{◌≡◌, Bool, true, false, cond, T, Float}
use Rattle.std.proofs.Math.Path.{refl, subst}
use Rattle.std.proofs.Common.{sym, ◌∙◌}
use Prim.Native.Nat.{ℕ, zero, suc}
use Rattle.std.specs.Float.Ieee.{lt}
use Rattle.floatlaws.specs.Order.{lt_trans}
use Rattle.xorshift.specs.Xorshift.{seeded}
use Rattle.merit.specs.declared.types.MeritEvaluation.{MeritEvaluation}
use Rattle.runs.specs.declared.types.OptimizationResult.{OptimizationResult}
use Rattle.runs.specs.Run.{Surfaces, Run, done, value, value-bind}
use Rattle.runs.specs.DampedRun.{Optimizer, damped}
use Rattle.runs.specs.MultiStartRun.{Best, some, the_best, is_lower, merged, after_draws, trial_presc, trials, multi_start}

-- the same number, or a lower one
pub data NotAbove (x y : Float) : Type 0 where
  same : x ≡ y → NotAbove x y
  below : T (lt x y) → NotAbove x y

under : (x y z : Float) → NotAbove x y → NotAbove y z → NotAbove x z
under x y z (same p) h = subst (λ (t : Float). NotAbove t z) (sym p) h
under x y z (below p) (same q) = below (subst (λ (t : Float). T (lt x t)) q p)
under x y z (below p) (below q) = below (lt_trans x y z p q)

merged-below : (best result : OptimizationResult) → NotAbove (merged (some best) result).final_merit best.final_merit
unfolding merged is_lower
merged-below best result = go (lt result.final_merit best.final_merit) refl
  where
    go : (b : Bool) → lt result.final_merit best.final_merit ≡ b → NotAbove (cond b result best).final_merit best.final_merit
    go true e = below (subst T (sym e) tt)
    go false e = same refl

module _ (f : Surfaces → MeritEvaluation) (o : Optimizer) (base : Surfaces) where
  abbrev last : Best → Run OptimizationResult
  last best = done (the_best best)

  pub trials-below : (left rng : ℕ) (best : OptimizationResult)
      → NotAbove (the_best (value f (trials o base left rng (some best)))).final_merit best.final_merit
  unfolding trials value
  trials-below zero rng best = same refl
  trials-below (suc left) rng best =
      let result = value f (damped o (trial_presc o base rng)) in
      subst (λ (b : Best). NotAbove (the_best b).final_merit best.final_merit) (sym (value-bind f (damped o (trial_presc o base rng)) _))
      (under _ _ _ (trials-below left (after_draws o.variables rng) (merged (some best) result)) (merged-below best result))

  pub multi_start-value : (n seed : ℕ)
      → value f (multi_start o base n seed) ≡ the_best (value f (trials o base n (seeded seed) (some (value f (damped o base)))))
  unfolding multi_start merged value
  multi_start-value n seed = value-bind f (damped o base) _ ∙ value-bind f (trials o base n (seeded seed) (some (value f (damped o base)))) last

  pub not-above-base : (n seed : ℕ) → NotAbove (value f (multi_start o base n seed)).final_merit (value f (damped o base)).final_merit
  not-above-base n seed =
      let result = value f (damped o base) in
      subst (λ (r : OptimizationResult). NotAbove r.final_merit result.final_merit) (sym (multi_start-value n seed))
      (trials-below n (seeded seed) result)
