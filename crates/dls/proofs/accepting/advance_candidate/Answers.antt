-- `dls::accepting::advance_candidate` meets its contract: by whether the merit is an improvement. Assumes nothing.
use mathlib.Core.Path.{◌≡◌, sym, ap, ◌∙◌}
use mathlib.Core.Bool.{Bool, ◌&&◌}
use lib.Ieee.{Float, lt}
use Rattle.floats.specs.Basic.{finite_of}
use Rattle.held.specs.JobFrom.{operand_count_from}
use Rattle.heldmerit.proofs.HeldOver.{merit-held}
use Rattle.dls.proofs.Advances.{candidate-taken, candidate-left}
use Rattle.dls.proofs.accepting.advance_candidate.Goals as goal

-- the test is that of the evaluation's merit
tested : {t : Bool} {m m' : Float} (current : Float) → t ≡ (finite_of m && lt m current) → m ≡ m' → t ≡ (finite_of m' && lt m' current)
tested y e f = e ∙ ap (λ (x : Float). finite_of x && lt x y) f

pub returns-then-is_reduction-clause-fact_1 : goal.returns-then-is_reduction-clause-fact_1
returns-then-is_reduction-clause-fact_1 c = λ k lens w.
    let m = merit-held _ _ _ c.merit_of-merit.ensures k lens w in
    candidate-taken _ _ _ (tested _ c.is_reduction.ensures m) c.if-is_reduction.true
    (c.advance_accepted.ensures k lens w (sym m) (operand_count_from c.args.job.held.counts.now))

pub returns-clause-fact_1 : goal.returns-clause-fact_1
returns-clause-fact_1 c = λ k lens w.
    candidate-left _ _ _ (tested _ c.is_reduction.ensures (merit-held _ _ _ c.merit_of-merit.ensures k lens w)) c.if-is_reduction.false
    (c.resume_rejected.ensures.fact_1 c.args.config)
