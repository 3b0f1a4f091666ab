-- At which numbers a phase is the end. Assumes nothing.
use mathlib.Core.Path.{◌≡◌, refl, sym, ap, ◌∙◌}
use mathlib.Core.Bool.{false}
use Prim.Native.Nat.{ℕ, zero, suc}
use native.Mathlib.Omega.{arith}
use lib.Dec.{leb}
use borrow.Author.Tests.{le-leb}
use Rattle.runs.specs.DampedRow.{phase_of, finished_at, is_finished}
use Rattle.runs.specs.AnnealingRow as Annealing
use Rattle.kinds.specs.Phases.{InPhase, StateInPhase}

-- a damped part is at its end from phase 4 on
over-number : (n : ℕ) → leb 4 n ≡ finished_at (phase_of n)
unfolding finished_at phase_of
over-number zero = refl
over-number (suc zero) = refl
over-number (suc (suc zero)) = refl
over-number (suc (suc (suc zero))) = refl
over-number (suc (suc (suc (suc n)))) = le-leb 4 (suc (suc (suc (suc n)))) (omega arith)

pub damped-over : (n : ℕ) → InPhase n (λ d. leb 4 n ≡ is_finished d)
unfolding is_finished
damped-over n d e = over-number n ∙ ap (λ (k : ℕ). finished_at (phase_of k)) (sym e)

-- in annealing 5 and 6 are the walk's phases, and any other is the polish's
pub polish-phase : (n : ℕ) → (n ≡ 5 → ⊥) → (n ≡ 6 → ⊥) → Annealing.phase_of n ≡ Annealing.polishing
unfolding Annealing.phase_of
polish-phase zero a b = refl
polish-phase (suc zero) a b = refl
polish-phase (suc (suc zero)) a b = refl
polish-phase (suc (suc (suc zero))) a b = refl
polish-phase (suc (suc (suc (suc zero)))) a b = refl
polish-phase (suc (suc (suc (suc (suc zero))))) a b = absurd (a refl)
polish-phase (suc (suc (suc (suc (suc (suc zero)))))) a b = absurd (b refl)
polish-phase (suc (suc (suc (suc (suc (suc (suc n))))))) a b = refl

pub polish-over : (n : ℕ) → (n ≡ 5 → ⊥) → (n ≡ 6 → ⊥) → StateInPhase n (λ s. Annealing.is_finished s ≡ is_finished s.damped)
unfolding Annealing.is_finished Annealing.finished_at
polish-over n a b s e = ap (λ (f : Annealing.Phase). Annealing.finished_at f s) (ap Annealing.phase_of e ∙ polish-phase n a b)

pub walk-first-goes : StateInPhase 5 (λ s. Annealing.is_finished s ≡ false)
unfolding Annealing.is_finished Annealing.finished_at Annealing.phase_of
walk-first-goes s e = ap (λ (k : ℕ). Annealing.finished_at (Annealing.phase_of k) s) e

pub walk-goes : StateInPhase 6 (λ s. Annealing.is_finished s ≡ false)
unfolding Annealing.is_finished Annealing.finished_at Annealing.phase_of
walk-goes s e = ap (λ (k : ℕ). Annealing.finished_at (Annealing.phase_of k) s) e
