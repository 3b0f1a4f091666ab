-- `turns::turn::turned` meets its contract: the parts one after the other. Assumes nothing.
use mathlib.Core.Path.{ap, ◌∙◌}
use Prim.Native.Nat.{◌*◌}
use native.Mathlib.Omega.{arith}
use lib.ListN.{drop}
use Rattle.jobs.specs.Passed.{passed}
use Rattle.runs.specs.Run.{Surfaces}
use Rattle.runs.specs.Rows.{advance_by}
use Rattle.dls.proofs.Kept.{kept_on}
use Rattle.turns.proofs.Laid.{operands-known, lies, behind-kept}
use Rattle.held.specs.JobFrom.{standing, surface_count_from, held_job}
use Rattle.held.specs.RowFrom.{state_from}
use Rattle.runs.specs.JobMerit.{evaluate_of}
use Rattle.turns.proofs.turn.turned.Goals as goal

pub values_of-found-requires-clause-fact_4 : goal.values_of-found-requires-clause-fact_4
values_of-found-requires-clause-fact_4 c =
    operands-known (held_job c.args.job.counts.now c.args.job.numbers.now c.args.kind) c.requires.fact_2

pub returns : goal.returns
returns c =
    let x = c.args in
    let job = held_job x.job.counts.now x.job.numbers.now x.kind in
    let n = (passed job c.requires.fact_2).counted in
    let laid = c.pending_surfaces.ensures in
    let l = c.pending_surfaces.new.flat in
    let count = surface_count_from x.job.counts.now in
    let found = c.values_of-found.ensures x.kind (standing l) (drop (4 * count) l)
    (lies l count n.surfaces (omega (arith, laid.fact_2.long, c.requires.fact_1))) in
    let a = c.advance_run.ensures in record {
      fact_1 = a.fact_1 x.kind (standing l) found
          ∙ ap (λ (p : Surfaces). advance_by job.method job (state_from x.h x.run.now x.best.now) (evaluate_of job p)) (laid.fact_1 x.run.now x.best.now);
      fact_2 = kept_on (behind-kept laid.fact_2) a.fact_2;
    }
