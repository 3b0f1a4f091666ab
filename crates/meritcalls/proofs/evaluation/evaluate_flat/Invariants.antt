-- `meritcalls::evaluation::evaluate_flat` meets its contract. Assumes nothing.
use Rattle.optics.specs.Laid.{lens_surface, lens_index}
use Rattle.merit.specs.Steps.{RootKnown}
use Rattle.meritcalls.proofs.Evaluating.{Evaluated}
use Rattle.meritcalls.proofs.evaluation.evaluate_flat.Given as goal

abbrev pub invariant-loop-n : goal.invariant-loop-n
invariant-loop-n l = Evaluated (lens_surface l.lens) (lens_index l.lens) l.lens.pupil l.lens.surfaces.count
    l.function l.initial.values l.initial.residuals l.values l.residuals
    l.total l.n × RootKnown l.known
