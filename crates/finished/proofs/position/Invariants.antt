-- `finished::position` meets its contract: what it has passed, and what is left to look at. Assumes nothing.
use Rattle.std.proofs.Common.{◌≡◌, ◌-◌}
use Rattle.finished.specs.Inserted.{turns_in, position_from}
use Rattle.finished.proofs.position.Given as goal

abbrev pub invariant-loop-at : goal.invariant-loop-at
invariant-loop-at l = position_from (turns_in l.turns) l.place l.places 0 l.count
    ≡ position_from (turns_in l.turns) l.place l.places l.at (l.count - l.at)
