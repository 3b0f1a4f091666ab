-- A multi-start run ends no higher than any of its trials, where every merit is finite. Assumes nothing but what is named.
use Rattle.std.specs.Prelude.{◌≡◌, ℕ, zero, suc, ◌+◌, ◌<◌, T, Float}
use Rattle.std.proofs.Common.{sym, ap, ◌∙◌, subst, add-zero, zero-add, arith}
use Rattle.std.specs.Float.Ieee.{le}
use Rattle.floatlaws.specs.Order.{Number, le_trans, lt→le, le-numbers}
use Rattle.floatlaws.specs.CallerLaws.{finite-test, finite_number}
use Rattle.xorshift.specs.Xorshift.{seeded}
use Rattle.merit.specs.declared.types.MeritEvaluation.{MeritEvaluation}
use Rattle.runs.specs.declared.types.OptimizationResult.{OptimizationResult}
use Rattle.runs.specs.Run.{Surfaces, value, value-bind}
use Rattle.runs.proofs.Ends.{Ends-value}
use Rattle.runs.specs.DampedRun.{Optimizer, damped}
use Rattle.runs.specs.MultiStartRun.{Best, some, the_best, merged, trial_presc, trials, multi_start}
use Rattle.runs.specs.Outcomes.{FiniteAnswer}
use Rattle.runs.proofs.RunEnds.{damped-descends}
use Rattle.runs.proofs.MultiStartBase.{NotAbove, same, below, trials-below, multi_start-value}
use Rattle.runs.proofs.Merged.{merged-result}
use Rattle.runs.proofs.Prefix.{no-draws, before, trials-from}

at_most : (x y z : Float) → NotAbove x y → T (le y z) → T (le x z)
at_most x y z (same p) h = subst (λ (t : Float). T (le t z)) (sym p) h
at_most x y z (below p) h = le_trans x y z (lt→le x y p) h

module _ (f : Surfaces → MeritEvaluation) (o : Optimizer) (base : Surfaces) where
  -- what trial t, counted from 0, comes to: a damped run from its own start
  abbrev pub trial_result : (seed t : ℕ) → OptimizationResult
  trial_result seed t = value f (damped o (trial_presc o base (before o base seed t)))

  -- the end of the trials from trial i on
  abbrev end_of : (left seed i : ℕ) (best : OptimizationResult) → OptimizationResult
  end_of left seed i best = the_best (value f (trials o base left (before o base seed i) (some best)))

  one_more : (left seed i : ℕ) (best : OptimizationResult) → end_of (suc left) seed i best ≡ end_of left seed (suc i) (merged (some best) (trial_result seed i))
  one_more left seed i best =
      ap (λ (b : Best). the_best b) (ap (value f) (trials-from o base left seed i (some best))
      ∙ value-bind f (damped o (trial_presc o base (before o base seed i))) _)

  all-trials : (n seed : ℕ) → value f (multi_start o base n seed) ≡ end_of n seed 0 (value f (damped o base))
  all-trials n seed =
      multi_start-value f o base n seed
      ∙ ap (λ (g : ℕ). the_best (value f (trials o base n g (some (value f (damped o base)))))) (no-draws o base (seeded seed))

  module _ (fine : (s : Surfaces) → FiniteAnswer s (f s)) where
    final-number : (initial : Surfaces) → Number (value f (damped o initial)).final_merit
    final-number initial = finite_number _ (finite-test _ (Ends-value f fine (damped-descends o initial)).0)

    trials-under : (left seed i d : ℕ) (best : OptimizationResult) → Number best.final_merit → d < left
        → T (le (end_of left seed i best).final_merit (trial_result seed (i + d)).final_merit)
    trials-under zero seed i d best p l = absurd (omega arith)
    trials-under (suc left) seed i zero best p l =
        rw (one_more left seed i best, add-zero i) (at_most _ _ _ (trials-below f o base left (before o base seed (suc i)) _)
        (merged-result best (trial_result seed i) p (final-number _)))
    trials-under (suc left) seed i (suc d) best p l =
        let e : i + suc d ≡ suc i + d = omega arith in
        let next = merged-result best (trial_result seed i) p (final-number _) in
        rw (one_more left seed i best, e) (trials-under left seed (suc i) d _ (le-numbers _ _ next).0 (omega arith))

    -- "a later one replaces it only when strictly lower": the final merit is not above that of any trial
    pub not-above-trial : (n seed t : ℕ) → t < n → T (le (value f (multi_start o base n seed)).final_merit (trial_result seed t).final_merit)
    not-above-trial n seed t l =
        let first = value f (damped o base) in
        rw (all-trials n seed) (subst (λ (i : ℕ). T (le (end_of n seed 0 first).final_merit (trial_result seed i).final_merit)) (zero-add t)
        (trials-under n seed 0 t first (final-number base) l))
