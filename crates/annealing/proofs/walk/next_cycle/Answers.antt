-- `annealing::walk::next_cycle` meets its contract: by whether there is another cycle. Assumes nothing.
use Prim.Native.Nat.{suc}
use mathlib.Core.Path.{refl, sym, ◌∙◌}
use mathlib.Core.Bool.{and-eq-true_iff}
use native.Mathlib.Omega.{arith}
use borrow.Author.Tests.{ltb-true}
use Rattle.runs.specs.AnnealingRun.{Annealer}
use Rattle.held.specs.JobFrom.{variables_from}
use Rattle.annealing.proofs.walk.next_cycle.Goals as goal

pub overflow_add-c : goal.overflow_add-c
overflow_add-c c = let x = c.args in
    let a : Annealer = record { config = x.config; variables = variables_from x.job.held.counts.now x.job.held.numbers.now; operand_count = 0 } in
    let e = sym (c.is_next_cycle.ensures a refl) ∙ c.if-is_next_cycle.true in
    let h = ltb-true (suc x.c) x.config.max_cooling_cycles ((and-eq-true_iff _ _).0 e).0 in
    omega (arith, h)
