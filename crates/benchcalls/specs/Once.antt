-- Of one turn that is played: a turn. Assumes nothing.
use Rattle.std.specs.Prelude.{◌≡◌, List, ℕ, zero, suc, Float, length}
use Rattle.std.proofs.Math.Path.{refl}
use Rattle.bench.specs.Benches.{row_at, with_row}
use Rattle.merit.specs.Calls.{unless_refused}
use Rattle.runs.specs.Cleared.{cleared}
use Rattle.runs.specs.Turn.{turned}
use Rattle.bench.specs.Calls.{turn_number, turned_bench, scratch_after}
use Rattle.bench.specs.declared.types.Bench.{Bench}
use Rattle.benchcalls.specs.Play.{Play, played, play_on, play_from}

-- what a play of one turn leaves and answers is what the turn does: no more than one is taken
abbrev pub Once : Play → (number : ℕ) → Bench → List Float → Type 0
Once z number b s = (z.bench ≡ b) × (z.number ≡ number) × (z.scratch ≡ s)

by_number : (m : ℕ) (b new : Bench) (s news : List Float) (z : Play)
    → z ≡ play_on m (played b 0 m s) (played (unless_refused m new b) 1 0 (unless_refused m news s))
    → Once z m (unless_refused m new b) (unless_refused m news s)
by_number zero b new s news z e = ((λ k. (e k).bench), (λ k. (e k).number), (λ k. (e k).scratch))
by_number (suc m) b new s news z e = ((λ k. (e k).bench), (λ k. (e k).number), (λ k. (e k).scratch))

module _ (b : Bench) (place : ℕ) (s : List Float) where
  pub once : Once (play_from place 1 0 b s) (turn_number b place (length s)) (turned_bench b place (length s)) (scratch_after b place s)
  unfolding play_from
  once = by_number (turn_number b place (length s)) b (with_row b place (turned (row_at b place))) s (cleared s) (play_from place 1 0 b s) refl
