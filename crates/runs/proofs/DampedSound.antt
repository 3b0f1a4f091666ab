-- The damped part of an undamaged row stays undamaged: its surfaces pass check 3 and no counter passes its limit. Assumes nothing but what is named.
use Rattle.std.specs.Prelude.{◌≡◌, true, false, List, ℕ, suc, ◌≤◌, ◌<◌, ltb, Float}
use native.Mathlib.Omega.{arith}
use borrow.Author.Tests.{ltb-true}
use Rattle.variables.specs.Active.{num_active}
use Rattle.variables.specs.Values.{applied}
use Rattle.merit.specs.declared.types.MeritEvaluation.{MeritEvaluation}
use Rattle.runs.specs.declared.types.DampedState.{DampedState}
use Rattle.runs.specs.Run.{Surfaces}
use Rattle.runs.specs.DampedRun.{Optimizer, Current, presc_plus, presc_minus, test_presc}
use Rattle.runs.specs.DampedRow.{Phase, first, plus, minus, candidate, finished, phase_of, pending_at, pending, advance, is_finished}
use Rattle.runs.proofs.DampedInvariant.{Invariant, Before, keeps}

module _ (o : Optimizer) (Taken : Surfaces → Type 0) (applies : (values : List Float) (x : Surfaces) → Taken x → Taken (applied o.variables values x)) where
  abbrev p : ℕ
  p = num_active o.variables

  abbrev limit : ℕ
  limit = o.config.max_iterations

  pub record Sound (d : DampedState) : Type 0 where
    pub is_phase : d.phase ≤ 4
    pub taken : Taken d.surfaces
    pub column_below : d.column < p
    pub attempt_up_to : d.attempt ≤ 10
    pub iteration_up_to : d.iteration ≤ limit

  abbrev Holds : Current → Type 0
  Holds s = Taken s.surfaces × (s.iteration ≤ limit)

  counts : (i : ℕ) → ltb i limit ≡ true → suc i ≤ limit
  counts i h = ltb-true i limit h

  sound : 0 < p → Invariant o
  unfolding test_presc
  sound pos = record {
    Start = Taken;
    Answer = λ e. Unit {0};
    Holds = Holds;
    AtColumn = λ q j. q < p;
    Full = λ j. Unit {0};
    Residuals = λ r. Unit {0};
    Candidate = λ c. Unit {0};
    State = Sound;
    starts = λ x e h n. (h, omega arith);
    raises = λ s h. h;
    counts = λ s h e. (h.0, counts s.iteration e);
    moves = λ c e s h g n. (applies c s.surfaces h.0, h.1);
    first_column = λ e. pos;
    no_column = λ e. tt;
    next_column = λ s q j r m h a b c e. ltb-true (suc q) p e;
    last_column = λ s q j r m h a b c e. tt;
    solves = λ j s h f. tt;
    answers = λ e n. tt;
    state_plus = λ s j q h a. record { is_phase = omega arith; taken = h.0; column_below = a; attempt_up_to = omega arith; iteration_up_to = h.1 };
    state_minus = λ s j q r h a b. record { is_phase = omega arith; taken = h.0; column_below = a; attempt_up_to = omega arith; iteration_up_to = h.1 };
    state_candidate = λ s j k c h f g l. record { is_phase = omega arith; taken = h.0; column_below = pos; attempt_up_to = l; iteration_up_to = h.1 };
    state_ended = λ c s h. record { is_phase = omega arith; taken = h.0; column_below = pos; attempt_up_to = omega arith; iteration_up_to = h.1 };
  }

  before : (f : Phase) (d : DampedState) (pos : 0 < p) → Sound d → Before o (sound pos) f d
  unfolding sound
  before first d pos h = h.taken
  before plus d pos h = ((h.taken, h.iteration_up_to), h.column_below)
  before minus d pos h = ((h.taken, h.iteration_up_to), h.column_below, tt)
  before candidate d pos h = ((h.taken, h.iteration_up_to), tt, tt)
  before finished d pos h = tt

  -- what is pending is the current surfaces, or these with the variables applied
  pending-at : (f : Phase) (d : DampedState) → Taken d.surfaces → Taken (pending_at o f d)
  unfolding pending_at presc_plus presc_minus test_presc
  pending-at first d h = h
  pending-at plus d h = applies _ d.surfaces h
  pending-at minus d h = applies _ d.surfaces h
  pending-at candidate d h = applies _ d.surfaces h
  pending-at finished d h = h

  pub pending-taken : (d : DampedState) → Taken d.surfaces → Taken (pending o d)
  unfolding pending
  pending-taken d h = pending-at (phase_of d.phase) d h

  pub sound-advance : (d : DampedState) (e : MeritEvaluation) → is_finished d ≡ false → Sound d → Sound (advance o d e)
  unfolding sound
  sound-advance d e u h =
      let pos : 0 < p = below-pos d.column p h.column_below in
      keeps o (sound pos) d e u (before (phase_of d.phase) d pos h) tt
    where
      below-pos : (q n : ℕ) → q < n → 0 < n
      below-pos q n h = omega arith
