-- An annealing run ends no higher than any merit of its walk, where every merit is finite. Assumes nothing but what is named.
use Rattle.std.specs.Prelude.{◌≡◌, ◌⊎◌, Bool, not, List, Float}
use Rattle.std.proofs.Math.Path.{refl, sym, ap, ap₂, subst}
use Rattle.std.proofs.Common.{◌∙◌, zero-mul}
use Rattle.std.proofs.Math.Logic.{inl, inr}
use Rattle.std.proofs.Math.Bool.{true, false}
use Prim.Native.Nat.{ℕ, zero, suc, ◌+◌, ◌*◌, ◌≤◌, ◌<◌}
use native.Mathlib.Omega.{arith}
use Rattle.std.proofs.Math.Dec.{T}
use Rattle.std.specs.Float.Ieee.{binary64, sub, lt, le}
use Rattle.floats.specs.Constants.{zero64}
use Rattle.floatlaws.specs.Fractions.{Finite}
use Rattle.floatlaws.specs.Order.{Number, le_trans, lt→le, le-self, le-numbers, not-lt→le}
use Rattle.floatlaws.specs.CallerLaws.{finite-test, finite_number}
use Rattle.floatlaws.proofs.Risen.{risen}
use Rattle.xorshift.specs.Xorshift.{step_of}
use Rattle.xorshift.specs.Draws.{unit_of}
use Rattle.merit.specs.declared.types.MeritEvaluation.{MeritEvaluation}
use Rattle.runs.specs.declared.types.OptimizationResult.{OptimizationResult}
use Rattle.runs.specs.Run.{Surfaces, Run, done, ask, evaluate, bind, ◌>>=◌, after_merit, after_merits, is_done, after_first, value, value-bind}
use Rattle.runs.proofs.Ends.{Ends-value}
use Rattle.runs.proofs.Asked.{Asks, merit_count, asked, goes_on, Asks-bind, count-bind, asks-early}
use Rattle.runs.specs.DampedRun.{Optimizer, Current, damped}
use Rattle.runs.proofs.DampedEnds.{ends-damped}
use Rattle.runs.specs.Outcomes.{FiniteAnswer}
use Rattle.runs.proofs.RunEnds.{By, damped-descends}
use Rattle.runs.specs.AnnealingRun.{Annealer, Walk, with_rng, cooled, if_best, prob, trial_params, after_draws, trial_presc, moved, accepted, if_drawn}
use Rattle.runs.specs.AnnealingRun.{if_not_risen, judged, tried, steps, cycles, started, polisher, total_iterations, polish, annealing}

-- the walk of an annealing run: the first merit, and then every cycle's steps
abbrev pub walked : Annealer → (base : Surfaces) → Run Walk
walked a base = do
  current_eval ← evaluate base
  cycles a a.config.max_cooling_cycles (started a base current_eval)

module _ (f : Surfaces → MeritEvaluation) where
  abbrev merit : Surfaces → Float
  merit s = (f s).total_merit

  -- both merits of a walk are those of their surfaces, and the best is not above the current
  abbrev pub Kept : Walk → Type 0
  Kept w = (w.current_merit ≡ merit w.surfaces) × (w.best_merit ≡ merit w.best_surfaces) × T (le w.best_merit w.current_merit)

  -- a damped run's first merit is that of the surfaces it starts from
  first-merit : (o : Optimizer) (initial : Surfaces) → (value f (damped o initial)).initial_merit ≡ merit initial
  first-merit o initial =
      Ends-value f (λ s. refl) (ends-damped o (By f) (λ (s : Current). s.initial_merit ≡ merit initial) (λ s h. h) (λ s h. h) (λ c e s h q r. h)
      (λ (r : OptimizationResult). r.initial_merit ≡ merit initial) initial (λ e q. ap (λ (x : MeritEvaluation). x.total_merit) q) (λ end h. h))

  module _ (a : Annealer) where
    abbrev start : Surfaces → Walk
    start base = started a base (f base)

    -- ---- How many merits the walk is, and that it comes first
    steps-count : (left : ℕ) (w : Walk) → merit_count f (steps a left w) ≡ left
    unfolding steps tried bind merit_count
    steps-count zero w = refl
    steps-count (suc left) w = ap suc (steps-count left _)

    cycles-count : (left : ℕ) (w : Walk) → merit_count f (cycles a left w) ≡ left * a.config.steps_per_temperature
    unfolding cycles merit_count
    cycles-count zero w = sym (zero-mul _)
    cycles-count (suc left) w =
        let k = a.config.steps_per_temperature in
        let e : k + left * k ≡ suc left * k = omega arith in
        count-bind f (steps a k w) _ ∙ ap₂ (λ (i j : ℕ). i + j) (steps-count k w) (cycles-count left _) ∙ e

    in-walk : (base : Surfaces) (k : ℕ) → suc k ≤ total_iterations a → k < merit_count f (cycles a a.config.max_cooling_cycles (start base))
    in-walk base k l = subst (λ (i : ℕ). k < i) (sym (cycles-count a.config.max_cooling_cycles (start base))) (omega arith)

    walk_first : (base s : Surfaces) (k : ℕ) (next : MeritEvaluation → Run OptimizationResult) → k ≤ total_iterations a
        → after_merits f k (annealing a base) ≡ ask s next → Asks f (walked a base) s
    unfolding annealing bind after_merits after_merit Asks
    walk_first base s zero next l h = inl (sym (ap (asked s) h))
    walk_first base s (suc k) next l h =
        inr (asks-early f (cycles a _ (start base)) _ k s next (in-walk base k l) (after_first f k (annealing a base) ∙ h))

    -- the run is not over before 1 + cycles × steps merits
    pub walk-whole : (base : Surfaces) (k : ℕ) → k ≤ a.config.max_cooling_cycles * a.config.steps_per_temperature
        → is_done (after_merits f k (annealing a base)) ≡ false
    unfolding annealing bind after_merits after_merit is_done
    walk-whole base zero l = refl
    walk-whole base (suc k) l =
        ap (λ (r : Run OptimizationResult). is_done r) (sym (after_first f k (annealing a base)))
        ∙ goes_on f (cycles a _ (start base)) _ k (in-walk base k l)

    polished : (base : Surfaces)
        → (value f (annealing a base)).final_merit ≡ (value f (damped (polisher a) (value f (walked a base)).best_surfaces)).final_merit
    unfolding annealing polish bind value
    polished base =
        ap (λ (r : OptimizationResult). r.final_merit) (value-bind f (cycles a a.config.max_cooling_cycles (start base)) _
        ∙ value-bind f (damped (polisher a) (value f (walked a base)).best_surfaces) _)

  module _ (a : Annealer) (fine : (s : Surfaces) → FiniteAnswer s (f s)) where
    finite : (s : Surfaces) → Finite (merit s)
    finite s = finite-test (merit s) (fine s)

    number : (s : Surfaces) → Number (merit s)
    number s = finite_number (merit s) (finite s)

    -- ---- One step: the best is then not above what it was, nor above the merit tried
    abbrev Stepped : Walk → Float → Walk → Type 0
    Stepped w x w' = Kept w' × T (le w'.best_merit w.best_merit) × T (le w'.best_merit x)

    best-self : (w : Walk) → Kept w → T (le w.best_merit w.best_merit)
    best-self w h = le-self w.best_merit (le-numbers _ _ h.2).0

    abbrev try_merit : List Float → Walk → Float
    try_merit trial w = merit (trial_presc a trial w)

    kept-accepted : (trial : List Float) (w : Walk) → Kept w → Stepped w (try_merit trial w) (accepted a trial (try_merit trial w) w)
    unfolding accepted if_best
    kept-accepted trial w h =
        go (try_merit trial w) refl (lt (try_merit trial w) w.best_merit) (lt→le _ w.best_merit)
        (not-lt→le _ w.best_merit (number _) (le-numbers _ _ h.2).0)
      where
        go : (x : Float) → x ≡ try_merit trial w → (b : Bool) → (T b → T (le x w.best_merit)) → (T (not b) → T (le w.best_merit x))
            → Stepped w x (if_best b (moved a trial x w))
        go x e true l n = ((e, e, le-self x (le-numbers _ _ (l tt)).0), l tt, le-self x (le-numbers _ _ (l tt)).0)
        go x e false l n = ((e, h.1, n tt), best-self w h, n tt)

    kept-drawn : (b : Bool) (trial : List Float) (w : Walk) → Kept w → T (le w.current_merit (try_merit trial w))
        → Stepped w (try_merit trial w) (if_drawn a b trial (try_merit trial w) w)
    unfolding if_drawn
    kept-drawn true trial w h l = kept-accepted trial w h
    kept-drawn false trial w h l = (h, best-self w h, le_trans _ _ _ h.2 l)

    kept-judged : (trial : List Float) (w : Walk) → Kept w → Stepped w (try_merit trial w) (judged a trial (f (trial_presc a trial w)) w)
    unfolding judged if_not_risen trial_presc
    kept-judged trial w h =
        let delta = sub binary64 (try_merit trial w) w.current_merit in
        go delta (le delta zero64) (risen (try_merit trial w) w.current_merit (finite _) (subst Finite (sym h.0) (finite w.surfaces)))
      where
        go : (delta : Float) (b : Bool) → (T (not b) → T (le w.current_merit (try_merit trial w)))
            → Stepped w (try_merit trial w) (if_not_risen a b trial (try_merit trial w) delta w)
        go delta true l = kept-accepted trial w h
        go delta false l = kept-drawn (lt (unit_of (step_of w.rng)) (prob delta w.temp)) trial (with_rng w (step_of w.rng)) h (l tt)

    -- ---- Steps and cycles: nor above any merit that they work out
    abbrev Ahead : Run Walk → Walk → Type 0
    Ahead r w = Kept (value f r) × T (le (value f r).best_merit w.best_merit) × ((s : Surfaces) → Asks f r s → T (le (value f r).best_merit (merit s)))

    ahead-done : (w : Walk) → Kept w → Ahead (done w) w
    unfolding value Asks
    ahead-done w h = (h, best-self w h, λ s q. absurd q)

    ahead-bind : (m : Run Walk) (g : Walk → Run Walk) (w : Walk) → Ahead m w → Ahead (g (value f m)) (value f m) → Ahead (bind m g) w
    ahead-bind m g w h k =
        let e = sym (value-bind f m g) in (
          subst Kept e k.0,
          subst (λ (v : Walk). T (le v.best_merit w.best_merit)) e (le_trans _ _ _ k.1 h.1),
          λ s q. subst (λ (v : Walk). T (le v.best_merit (merit s))) e (either s (Asks-bind f m g s q)),
        )
      where
        either : (s : Surfaces) → Asks f m s ⊎ Asks f (g (value f m)) s → T (le (value f (g (value f m))).best_merit (merit s))
        either s (inl i) = le_trans _ _ _ k.1 (h.2 s i)
        either s (inr i) = k.2 s i

    ahead-tried : (trial : List Float) (w : Walk) → Kept w → Ahead (tried a trial w) w
    unfolding tried bind value Asks
    ahead-tried trial w h =
        let j = kept-judged trial w h in
        let w' = judged a trial (f (trial_presc a trial w)) w in
        (j.0, j.1, λ s q. elim q [ inl e ↦ subst (λ (t : Surfaces). T (le w'.best_merit (merit t))) (sym e) j.2 | inr i ↦ absurd i ])

    ahead-steps : (left : ℕ) (w : Walk) → Kept w → Ahead (steps a left w) w
    unfolding steps after_draws
    ahead-steps zero w h = ahead-done w h
    ahead-steps (suc left) w h =
        let t = ahead-tried (trial_params a w) (after_draws a w) h in
        ahead-bind (tried a (trial_params a w) (after_draws a w)) _ w t (ahead-steps left _ t.0)

    ahead-cycles : (left : ℕ) (w : Walk) → Kept w → Ahead (cycles a left w) w
    unfolding cycles
    ahead-cycles zero w h = ahead-done w h
    ahead-cycles (suc left) w h =
        let t = ahead-steps a.config.steps_per_temperature w h in
        ahead-bind (steps a a.config.steps_per_temperature w) _ w t (ahead-cycles left (cooled a.config.cooling_rate (value f _)) t.0)

    -- ---- The laws
    kept-started : (base : Surfaces) → Kept (start a base)
    kept-started base = (refl, refl, le-self (merit base) (number base))

    -- wherever the walk comes to, after n cycles and m steps
    pub walk-keeps : (base : Surfaces) (n m : ℕ) → Kept (value f (cycles a n (start a base) >>= steps a m))
    walk-keeps base n m =
        let c = ahead-cycles n (start a base) (kept-started base) in
        (ahead-bind (cycles a n (start a base)) (steps a m) (start a base) c (ahead-steps m _ c.0)).0

    -- the surfaces that the polish starts from are the lowest of all whose merit the walk worked out
    pub best-of-walk : (base s : Surfaces) → Asks f (walked a base) s → T (le (merit (value f (walked a base)).best_surfaces) (merit s))
    unfolding bind value Asks
    best-of-walk base s q =
        let w = ahead-cycles a.config.max_cooling_cycles (start a base) (kept-started base) in
        subst (λ (x : Float). T (le x (merit s))) w.0.1
        (elim q [ inl e ↦ subst (λ (t : Surfaces). T (le (value f (walked a base)).best_merit (merit t))) (sym e) w.1 | inr i ↦ w.2 s i ])

    polish-lower : (base s : Surfaces) → Asks f (walked a base) s → T (le (value f (annealing a base)).final_merit (merit s))
    polish-lower base s q =
        let from = (value f (walked a base)).best_surfaces in
        let lower = (Ends-value f fine (damped-descends (polisher a) from)).1 in
        rw (polished a base) (le_trans _ _ _ lower (rw (first-merit (polisher a) from) (best-of-walk base s q)))

    -- and the final merit is not above any of the first 1 + cycles × steps
    pub not-above-walk : (base s : Surfaces) (k : ℕ) (next : MeritEvaluation → Run OptimizationResult)
        → k ≤ a.config.max_cooling_cycles * a.config.steps_per_temperature → after_merits f k (annealing a base) ≡ ask s next
        → T (le (value f (annealing a base)).final_merit (f s).total_merit)
    not-above-walk base s k next l h = polish-lower base s (walk_first a base s k next l h)
