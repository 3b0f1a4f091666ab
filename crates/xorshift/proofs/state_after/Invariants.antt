-- `xorshift::state_after` meets its contract: after so many turns x is the state after so many draws. Assumes nothing.
use mathlib.Core.Path.{◌≡◌}
use Rattle.xorshift.specs.Xorshift.{seeded, step_times}
use Rattle.xorshift.proofs.state_after.Given as goal

abbrev pub invariant-loop : goal.invariant-loop
invariant-loop l = l.x ≡ step_times l.counter (seeded l.seed)
