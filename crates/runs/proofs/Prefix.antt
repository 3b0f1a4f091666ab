-- Shorter runs as beginnings of longer ones: a limit or a number of trials enters by the number of repeats alone. Assumes nothing.
use Rattle.std.specs.Prelude.{◌≡◌, refl}
use Rattle.std.proofs.Math.Path.{ap, sym, fun_ext}
use Rattle.std.proofs.Common.{◌∙◌, zero-add, suc-add, zero-mul}
use Prim.Native.Nat.{ℕ, zero, suc, ◌+◌, ◌*◌}
use native.Mathlib.Omega.{arith}
use Rattle.xorshift.specs.Xorshift.{seeded, step_times}
use Rattle.xorshift.specs.Laws.{times-add}
use Rattle.variables.specs.Active.{num_active}
use Rattle.runs.specs.declared.types.OptimizationResult.{OptimizationResult}
use Rattle.runs.specs.Run.{Surfaces, Run, bind, bind_assoc}
use Rattle.runs.specs.DampedRun.{Optimizer, Current, After, on, over, iteration, going_on, iterations, damped}
use Rattle.runs.specs.MultiStartRun.{Best, some, merged, after_draws, trial_presc, trials}

going-twice : (f g : Current → Run After) (end : After) → bind (going_on f end) (going_on g) ≡ going_on (λ (s : Current). bind (f s) (going_on g)) end
unfolding going_on bind
going-twice f g (on s) = refl
going-twice f g (over converged s) = refl

module _ (o : Optimizer) where
  -- limit k + j is limit k, then j more
  pub iterations-add : (k j : ℕ) (s : Current) → iterations o (k + j) s ≡ bind (iterations o k s) (going_on (iterations o j))
  unfolding iterations going_on bind
  iterations-add zero j s = ap (λ (n : ℕ). iterations o n s) (zero-add j)
  iterations-add (suc k) j s =
      ap (λ (n : ℕ). iterations o n s) (suc-add k j)
      ∙ ap (λ (f : Current → Run After). bind (iteration o s) (going_on f)) (fun_ext λ s'. iterations-add k j s')
      ∙ ap (bind (iteration o s)) (fun_ext λ end. sym (going-twice (iterations o k) (iterations o j) end))
      ∙ sym (bind_assoc (iteration o s) (going_on (iterations o k)) (going_on (iterations o j)))

module _ (o : Optimizer) (base : Surfaces) where
  abbrev p : ℕ
  p = num_active o.variables

  -- p draws, then those of m trials
  draws-more : (m rng : ℕ) → step_times (m * p) (after_draws o.variables rng) ≡ step_times (suc m * p) rng
  unfolding after_draws
  draws-more m rng =
      let e : suc m * p ≡ p + m * p = omega arith in
      sym (ap (λ (k : ℕ). step_times k rng) e ∙ times-add p (m * p) rng)

  pub no-draws : (rng : ℕ) → rng ≡ step_times (0 * p) rng
  unfolding step_times
  no-draws rng = sym (ap (λ (k : ℕ). step_times k rng) (zero-mul p))

  -- m trials, then n more, which begin m × p draws further on
  pub trials-add : (m n rng : ℕ) (best : Best) → trials o base (m + n) rng best ≡ bind (trials o base m rng best) (trials o base n (step_times (m * p) rng))
  unfolding trials bind
  trials-add zero n rng best = ap (λ (k : ℕ). trials o base k rng best) (zero-add n) ∙ ap (λ (g : ℕ). trials o base n g best) (no-draws rng)
  trials-add (suc m) n rng best =
      let g = after_draws o.variables rng in
      ap (λ (k : ℕ). trials o base k rng best) (suc-add m n)
      ∙ ap (bind (damped o (trial_presc o base rng))) (fun_ext λ result.
      trials-add m n g (some (merged best result)) ∙ ap (λ (h : ℕ). bind (trials o base m g (some (merged best result))) (trials o base n h))
      (draws-more m rng))
      ∙ sym (bind_assoc (damped o (trial_presc o base rng)) (λ (result : OptimizationResult). trials o base m g (some (merged best result)))
      (trials o base n (step_times (suc m * p) rng)))

  -- the generator before trial t, counted from 0, is the seed after t × p draws
  abbrev pub before : (seed t : ℕ) → ℕ
  before seed t = step_times (t * p) (seeded seed)

  before-next : (seed t : ℕ) → after_draws o.variables (before seed t) ≡ before seed (suc t)
  unfolding after_draws
  before-next seed t =
      let e : suc t * p ≡ t * p + p = omega arith in
      sym (ap (λ (k : ℕ). step_times k (seeded seed)) e ∙ times-add (t * p) p (seeded seed))

  -- so trial t is from there, and the trials after it from trial t + 1 on
  pub trials-from : (n seed t : ℕ) (best : Best) →
      trials o base (suc n) (before seed t) best ≡ bind (damped o (trial_presc o base (before seed t))) λ result. trials o base n (before seed (suc t))
      (some (merged best result))
  unfolding trials
  trials-from n seed t best =
      ap (λ (g : ℕ). bind (damped o (trial_presc o base (before seed t))) (λ (result : OptimizationResult). trials o base n g (some (merged best result))))
      (before-next seed t)
