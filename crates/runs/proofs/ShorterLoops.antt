-- Request 14, of one optimizer: the ends that are noted are those of shorter loops. Assumes nothing.
use Rattle.std.specs.Prelude.{◌≡◌, Bool, Float}
use Rattle.std.proofs.Math.Path.{refl, ap, sym, subst}
use Rattle.std.proofs.Common.{◌∙◌, add-one}
use Rattle.std.proofs.Math.Bool.{true, false}
use mathlib.Core.List.{List, [], ◌∷◌}
use Prim.Native.Nat.{ℕ, zero, suc, ◌+◌, ◌<◌}
use native.Mathlib.Omega.{arith}
use Rattle.std.proofs.Math.Dec.{T}
use Rattle.std.specs.Float.Ieee.{lt, le}
use Rattle.std.specs.Float.Ieee.Fits.{and_r}
use Rattle.std.proofs.Math.ListN.{length, get_or}
use Rattle.floats.specs.Basic.{finite_of}
use Rattle.floatlaws.specs.Order.{le_trans, lt→le, le-self}
use Rattle.floatlaws.specs.CallerLaws.{finite-test, finite_number}
use Rattle.variables.specs.Active.{num_active}
use Rattle.merit.specs.declared.types.MeritEvaluation.{MeritEvaluation}
use Rattle.runs.specs.Run.{Surfaces, Run, bind, value, value-bind}
use Rattle.runs.specs.Zeros.{zero_jacobian}
use Rattle.runs.proofs.Ends.{Ends-value}
use Rattle.runs.specs.DampedRun.{Optimizer, Current, After, on, over, state_of, current_merit, counted, raised, settled, columns, is_stationary}
use Rattle.runs.specs.DampedRun.{if_stationary, is_solved, candidate_params, test_presc, is_reduction, moved, accepted, if_reduced, if_solved, attempts}
use Rattle.runs.specs.DampedRun.{iteration, going_on, iterations}
use Rattle.runs.proofs.DampedEnds.{ends-iterations}
use Rattle.runs.specs.Outcomes.{FiniteAnswer}
use Rattle.runs.proofs.Prefix.{iterations-add}
use Rattle.runs.specs.Shorter.{noted, ends, merit_at}

module _ (f : Surfaces → MeritEvaluation) (o : Optimizer) where
  abbrev pub loop : ℕ → Current → After
  loop k s = value f (iterations o k s)

  abbrev iterated : Current → After
  iterated s = value f (iteration o s)

  loop-next : (k : ℕ) (s : Current) → loop (suc k) s ≡ value f (going_on (iterations o k) (iterated s))
  unfolding iterations
  loop-next k s = value-bind f (iteration o s) (going_on (iterations o k))

  pub end-same : (left k : ℕ) (s : Current) (d : After) → k < length (on s ∷ ends f o left s) → get_or (on s ∷ ends f o left s) k d ≡ loop k s
  unfolding ends noted iterations going_on value
  end-same left zero s d h = refl
  end-same zero (suc k) s d h = absurd (omega arith)
  end-same (suc left) (suc k) s d h = go (iterated s) h (λ s' h'. end-same left k s' d h') ∙ sym (loop-next k s)
    where
      go : (a : After) → suc k < suc (length (noted (ends f o left) a)) →
          ((s' : Current) → k < length (on s' ∷ ends f o left s') → get_or (on s' ∷ ends f o left s') k d ≡ loop k s') →
          get_or (noted (ends f o left) a) k d ≡ value f (going_on (iterations o k) a)
      go (on s') h ih = ih s' (omega arith)
      go (over c s') h ih = first k (omega arith)
        where
          first : (k : ℕ) → k < 1 → get_or (over c s' ∷ []) k d ≡ over c s'
          first zero h = refl
          first (suc k) h = absurd (omega arith)

  -- ---- an iteration counts once
  settled-keeps : (b : Bool) (s : Current) → state_of (settled b s) ≡ s
  unfolding settled
  settled-keeps true s = refl
  settled-keeps false s = refl

  accepted-counts : (c : List Float) (e : MeritEvaluation) (s : Current) → (state_of (accepted o c e s)).iteration ≡ s.iteration
  unfolding accepted
  accepted-counts c e s = ap (λ (t : Current). t.iteration) (settled-keeps _ (moved o c e s))

  solved-counts : (b : Bool) (c : List Float) (s : Current) (next : Run After) → (state_of (value f next)).iteration ≡ s.iteration →
      (state_of (value f (if_solved o b c s next))).iteration ≡ s.iteration
  unfolding if_solved if_reduced bind value
  solved-counts false c s next h = h
  solved-counts true c s next h = go (is_reduction o e s)
    where
      e : MeritEvaluation
      e = f (test_presc o c s)

      go : (b : Bool) → (state_of (value f (if_reduced o b c e s next))).iteration ≡ s.iteration
      go true = accepted-counts c e s
      go false = h

  attempts-count : (left : ℕ) (j_mat : List Float) (s : Current) → (state_of (value f (attempts o left j_mat s))).iteration ≡ s.iteration
  unfolding attempts value
  attempts-count zero j_mat s = refl
  attempts-count (suc left) j_mat s =
      solved-counts (is_solved o j_mat s) (candidate_params o j_mat s) s (attempts o left j_mat (raised s)) (attempts-count left j_mat (raised s))

  stationary-counts : (b : Bool) (j_mat : List Float) (s : Current) → (state_of (value f (if_stationary o b j_mat s))).iteration ≡ s.iteration
  unfolding if_stationary value
  stationary-counts true j_mat s = refl
  stationary-counts false j_mat s = attempts-count 10 j_mat s

  iteration-counts : (s : Current) → (state_of (iterated s)).iteration ≡ suc s.iteration
  unfolding iteration
  iteration-counts s =
      let t = counted s in
      let c = columns o (num_active o.variables) 0 t zero_jacobian in
      ap (λ (a : After). (state_of a).iteration) (value-bind f c (λ (j_mat : List Float). if_stationary o (is_stationary o j_mat t) j_mat t))
      ∙ stationary-counts (is_stationary o (value f c) t) (value f c) t

  -- ---- so the counter says how many ends are noted
  pub loop-counts : (left : ℕ) (s : Current) → (state_of (loop left s)).iteration ≡ s.iteration + length (ends f o left s)
  unfolding ends noted iterations going_on value
  loop-counts zero s = omega arith
  loop-counts (suc left) s = ap (λ (a : After). (state_of a).iteration) (loop-next left s) ∙ go (iterated s) (iteration-counts s) (λ s'. loop-counts left s')
    where
      go : (a : After) → (state_of a).iteration ≡ suc s.iteration →
          ((s' : Current) → (state_of (loop left s')).iteration ≡ s'.iteration + length (ends f o left s')) →
          (state_of (value f (going_on (iterations o left) a))).iteration ≡ s.iteration + length (noted (ends f o left) a)
      go (on s') h ih = omega (arith, ih s')
      go (over c s') h ih = omega arith

  -- a loop of as many as are noted ends as the whole does
  pub loop-last : (left : ℕ) (s : Current) → loop (length (ends f o left s)) s ≡ loop left s
  unfolding ends noted iterations going_on value
  loop-last zero s = refl
  loop-last (suc left) s = go (iterated s) refl (λ s'. loop-last left s') ∙ sym (loop-next left s)
    where
      go : (a : After) → iterated s ≡ a → ((s' : Current) → loop (length (ends f o left s')) s' ≡ loop left s') →
          loop (length (noted (ends f o left) a)) s ≡ value f (going_on (iterations o left) a)
      go (on s') e ih =
          let n = length (ends f o left s') in
          loop-next n s ∙ ap (λ (a : After). value f (going_on (iterations o n) a)) e ∙ ih s'
      go (over c s') e ih = loop-next 0 s ∙ ap (λ (a : After). value f (going_on (iterations o 0) a)) e

  -- ---- a loop goes on from its end, or is over
  pub loop-add : (k more : ℕ) (s : Current) → loop (k + more) s ≡ value f (going_on (iterations o more) (loop k s))
  loop-add k more s = ap (value f) (iterations-add o k more s) ∙ value-bind f (iterations o k s) (going_on (iterations o more))

  -- one that has not come to its limit is over
  pub stays : (k more : ℕ) (s : Current) → (state_of (loop k s)).iteration < s.iteration + k → value f (going_on (iterations o more) (loop k s)) ≡ loop k s
  unfolding iterations going_on value
  stays zero more s h = absurd (omega arith)
  stays (suc k) more s h =
      subst (λ (a : After). value f (going_on (iterations o more) a) ≡ a) (sym (loop-next k s))
      (go (iterated s) (iteration-counts s) (subst (λ (a : After). (state_of a).iteration < s.iteration + suc k) (loop-next k s) h) λ s' h'. stays k more s' h')
    where
      go : (a : After) → (state_of a).iteration ≡ suc s.iteration → (state_of (value f (going_on (iterations o k) a))).iteration < s.iteration + suc k →
          ((s' : Current) → (state_of (loop k s')).iteration < s'.iteration + k → value f (going_on (iterations o more) (loop k s')) ≡ loop k s') →
          value f (going_on (iterations o more) (value f (going_on (iterations o k) a))) ≡ value f (going_on (iterations o k) a)
      go (on s') e h ih = ih s' (omega arith)
      go (over c s') e h ih = refl

  -- ---- given that every merit is finite, no iteration ends above where it begins
  module _ (fine : (s : Surfaces) → FiniteAnswer s (f s)) where
    abbrev Below : Float → Current → Type 0
    Below x s = T (finite_of (current_merit s)) × T (le (current_merit s) x)

    below-moved : (x : Float) (c : List Float) (e : MeritEvaluation) (s : Current) →
        Below x s → FiniteAnswer (test_presc o c s) e → is_reduction o e s ≡ true → Below x (moved o c e s)
    unfolding is_reduction
    below-moved x c e s h q t =
        let y = e.total_merit in
        (q, le_trans y (current_merit s) x (lt→le y (current_merit s) (and_r (finite_of y) (lt y (current_merit s)) (subst T (sym t) tt))) h.1)

    below-itself : (s : Current) → T (finite_of (current_merit s)) → Below (current_merit s) s
    below-itself s h = (h, le-self (current_merit s) (finite_number (current_merit s) (finite-test (current_merit s) h)))

    loop-below : (k : ℕ) (s : Current) → T (finite_of (current_merit s)) → Below (current_merit s) (state_of (loop k s))
    loop-below k s h =
        let x = current_merit s in
        Ends-value f fine (ends-iterations o FiniteAnswer (Below x) (λ s h. h) (λ s h. h) (below-moved x) k s (below-itself s h))

    pub never-rises : (k : ℕ) (s : Current) → T (finite_of (current_merit s)) → T (le (merit_at (loop (suc k) s)) (merit_at (loop k s)))
    unfolding going_on value
    never-rises k s h =
        let e : loop (suc k) s ≡ value f (going_on (iterations o 1) (loop k s)) = ap (λ (n : ℕ). loop n s) (sym (add-one k)) ∙ loop-add k 1 s in
        subst (λ (a : After). T (le (merit_at a) (merit_at (loop k s)))) (sym e) (go (loop k s) (loop-below k s h).0)
      where
        go : (a : After) → T (finite_of (merit_at a)) → T (le (merit_at (value f (going_on (iterations o 1) a))) (merit_at a))
        go (on s') h = (loop-below 1 s' h).1
        go (over c s') h = (below-itself s' h).1
