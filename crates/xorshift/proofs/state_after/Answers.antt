-- `xorshift::state_after` meets its contract: after so many turns x is the state after so many draws. Assumes nothing.
use mathlib.Core.Path.{◌≡◌}
use native.Mathlib.Omega.{arith}
use native.Mathlib.Numerals.{add-one}
use Rattle.xorshift.specs.Xorshift.{step_times}
use Rattle.xorshift.proofs.state_after.Goals as goal

pub loop-init : goal.loop-init
unfolding step_times
loop-init c = c.new-x.ensures

pub loop-preserved : goal.loop-preserved
unfolding step_times
loop-preserved c = rw add-one (cc)

pub returns : goal.returns
returns c = let e : c.loop.counter ≡ c.args.draws = omega arith in rw (← e) (cc)
