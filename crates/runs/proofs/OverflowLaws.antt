-- Request 6: a candidate whose total overflowed is never accepted over a current merit, whatever that is. Assumes nothing.
use Rattle.std.specs.Prelude.{◌≡◌, refl, Bool, true, false, ◌&&◌, T, Float}
use Rattle.std.proofs.Common.{sym, ap, ◌∙◌, subst}
use Rattle.std.specs.Float.{binary64}
use Rattle.std.specs.Float.Ieee.{lt, fits}
use Rattle.floats.specs.Basic.{finite_of}
use Rattle.floatlaws.specs.CallerLaws.{finite-test}
use Rattle.optics.specs.Types.{surface_at, slot_index}
use Rattle.merit.specs.Evaluation.{overflow_merit}
use Rattle.merit.proofs.OverflowLaws.{overflow-never-lower, total-fits}
use Rattle.merit.specs.declared.types.MeritEvaluation.{MeritEvaluation}
use Rattle.jobs.specs.declared.types.Job.{Job}
use Rattle.runs.specs.declared.types.OptimizationResult.{OptimizationResult}
use Rattle.runs.specs.Run.{Surfaces}
use Rattle.runs.specs.DampedRun.{Optimizer, Current, current_merit, is_reduction}
use Rattle.runs.specs.MultiStartRun.{is_lower}
use Rattle.runs.specs.JobMerit.{evaluate_of}
use Rattle.runs.proofs.TurnLaws.{merit-finite}

-- what every merit is: a finite f64
abbrev pub Worked : Float → Type 0
Worked x = T (fits binary64 x) × T (finite_of x)

pub merit-worked : (job : Job) (s : Surfaces) → Worked (evaluate_of job s).total_merit
unfolding evaluate_of
merit-worked job s =
    let p = job.prescription in
    (total-fits (surface_at s) (slot_index p.indices) p.entrance_pupil_diameter_mm p.surface_count job.merit_function, merit-finite job s)

never-lower : (x y : Float) → x ≡ overflow_merit → Worked y → lt x y ≡ false
never-lower x y e w = ap (λ (z : Float). lt z y) e ∙ overflow-never-lower y w.0 (finite-test y w.1)

-- a step of a damped run
pub overflow-never-accepted : (o : Optimizer) (e : MeritEvaluation) (s : Current) → e.total_merit ≡ overflow_merit → Worked (current_merit s)
    → is_reduction o e s ≡ false
unfolding is_reduction
overflow-never-accepted o e s q w =
    ap (λ (b : Bool). finite_of e.total_merit && b) (never-lower _ (current_merit s) q w) ∙ neither (finite_of e.total_merit)
  where
    neither : (b : Bool) → b && false ≡ false
    neither true = refl
    neither false = refl

-- the job's own: whatever lens it stands at
pub overflowed-stays-out : (job : Job) (o : Optimizer) (candidate current : Surfaces) (s : Current) → s.evaluation ≡ evaluate_of job current →
    (evaluate_of job candidate).total_merit ≡ overflow_merit → is_reduction o (evaluate_of job candidate) s ≡ false
overflowed-stays-out job o candidate current s e q =
    overflow-never-accepted o (evaluate_of job candidate) s q (subst (λ (v : MeritEvaluation). Worked v.total_merit) (sym e) (merit-worked job current))

-- a trial of a multi-start
pub overflow-never-wins : (result best : OptimizationResult) → result.final_merit ≡ overflow_merit → Worked best.final_merit
    → is_lower result best ≡ false
unfolding is_lower
overflow-never-wins result best q w = never-lower result.final_merit best.final_merit q w
