-- `helddamage::limits::bound` meets its contract: the counts of each kind are within theirs. Assumes nothing.
use Rattle.kinds.specs.Methods.{is-damped, is-multi-start, is-annealing}
use mathlib.Core.Path.{subst}
use mathlib.Core.List.{[]}
use native.Mathlib.Omega.{arith}
use Rattle.kinds.specs.Limits.{CountsWithin}
use Rattle.held.specs.JobFrom.{settings_from}
use Rattle.helddamage.proofs.limits.bound.Goals as goal

pub damped_bound-requires : goal.damped_bound-requires
damped_bound-requires c =
    let w = subst CountsWithin (is-damped _ (settings_from c.args.job.counts.now []) c.in-1.is)
    (c.requires.0 []) in (omega (arith, w, c.max_iterations.ensures), c.requires.1)

pub multi_start_bound-requires : goal.multi_start_bound-requires
multi_start_bound-requires c =
    let w = subst CountsWithin (is-multi-start _ (settings_from c.args.job.counts.now []) c.in-2.is)
    (c.requires.0 []) in
    (omega (arith, w.1, c.num_trials.ensures), omega (arith, w.0, c.max_iterations-in-2.ensures), c.requires.1)

pub annealing_bound-requires : goal.annealing_bound-requires
annealing_bound-requires c =
    let w = subst CountsWithin (is-annealing _ (settings_from c.args.job.counts.now []) (λ e. omega arith) (λ e. omega arith)) (c.requires.0 []) in
    (omega (arith, w.0, c.max_cooling_cycles.ensures), omega (arith, w.1, c.steps_per_temperature.ensures), c.requires.1)
