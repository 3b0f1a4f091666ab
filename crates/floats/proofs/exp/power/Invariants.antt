-- `floats::exp::power` meets its contract: what is left to square comes to the whole. Assumes nothing.
use mathlib.Core.Path.{◌≡◌}
use Prim.Native.Nat.{◌-◌}
use Rattle.floats.specs.Exp.{squares}
use Rattle.floats.proofs.exp.power.Given as goal

abbrev pub invariant-loop : goal.invariant-loop
invariant-loop l = squares (10 - l.counter) l.s ≡ squares 10 l.x
