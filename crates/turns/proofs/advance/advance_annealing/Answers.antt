-- `turns::advance::advance_annealing` meets its contract: by phase. Assumes nothing.
use Prim.Native.Nat.{ℕ}
use mathlib.Core.Path.{◌≡◌, refl, sym, ap, ◌∙◌}
use native.Mathlib.Omega.{arith}
use Rattle.jobs.specs.declared.types.DlsConfig.{DlsConfig}
use Rattle.merit.specs.declared.types.MeritEvaluation.{MeritEvaluation}
use Rattle.runs.specs.AnnealingRow as Annealing
use Rattle.runs.specs.AnnealingRun.{Annealer}
use Rattle.runs.specs.DampedRow as Damped
use Rattle.runs.specs.State.{State, with_damped}
use Rattle.dls.specs.DampedSteps.{optimizer}
use Rattle.kinds.proofs.Over.{polish-phase}
use Rattle.heldmerit.proofs.HeldOver.{merit-held}
use Rattle.held.specs.JobFrom.{operand_count_from, variables_from, held_job}
use Rattle.held.specs.RowFrom.{state_from}
use Rattle.runs.specs.JobMerit.{evaluate_of}
use Rattle.turns.proofs.advance.advance_annealing.Goals as goal

-- by the phase, or by its number
in-phase : (a : Annealer) (s : State) (e : MeritEvaluation) {p : Annealing.Phase} {r : State} → Annealing.phase_of s.damped.phase ≡ p
    → r ≡ Annealing.advance_at a p s e → r ≡ Annealing.advance a s e
unfolding Annealing.advance
in-phase a s e at f = f ∙ ap (λ (p : Annealing.Phase). Annealing.advance_at a p s e) (sym at)

numbered : (a : Annealer) (s : State) (e : MeritEvaluation) {n : ℕ} {r : State} → s.damped.phase ≡ n
    → r ≡ Annealing.advance_at a (Annealing.phase_of n) s e → r ≡ Annealing.advance a s e
numbered a s e at f = in-phase a s e (ap Annealing.phase_of at) f

pub returns-in-5-clause-fact_1 : goal.returns-in-5-clause-fact_1
unfolding Annealing.phase_of
returns-in-5-clause-fact_1 c = λ k lens w.
    numbered _ _ _ c.in-5.is
    (c.advance_walk_first.ensures _ (sym c.annealing_config-config.ensures) refl c.args.h _ (sym (merit-held _ _ _ c.merit_of.ensures k lens w)))

pub returns-in-6-clause-fact_1 : goal.returns-in-6-clause-fact_1
unfolding Annealing.phase_of
returns-in-6-clause-fact_1 c = λ k lens w.
    numbered _ _ _ c.in-6.is
    (c.advance_walk.ensures _ (sym c.annealing_config-config.ensures) refl _ (sym (merit-held _ _ _ c.merit_of-in-6.ensures k lens w)))

pub returns-in_default-clause-fact_1 : goal.returns-in_default-clause-fact_1
unfolding Annealing.advance_at
returns-in_default-clause-fact_1 c = λ k lens w.
    let x = c.args in
    let s = state_from x.h x.run.now x.best.now in
    let e = evaluate_of (held_job x.job.held.counts.now x.job.held.numbers.now k) lens in
    in-phase _ s e (polish-phase x.h.damped.phase (λ e. omega arith) (λ e. omega arith))
    (c.advance_part.ensures.fact_1 k lens w x.best.now
    ∙ ap (λ (l : DlsConfig). with_damped s (Damped.advance
    (optimizer l (variables_from x.job.held.counts.now x.job.held.numbers.now) (operand_count_from x.job.held.counts.now)) s.damped e))
    c.polish_settings.ensures)
