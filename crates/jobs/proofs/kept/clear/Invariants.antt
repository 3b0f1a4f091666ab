-- `jobs::kept::clear` meets its contract. The loop's invariant: the entries passed are zero. Assumes nothing.
use Rattle.lists.specs.Kept.{Clearing, below}
use Rattle.jobs.proofs.kept.clear.Given as goal

abbrev pub invariant-loop-i : goal.invariant-loop-i
invariant-loop-i g l = (past : g.row.T.Denot) → Clearing (below l.count) l.zero past l.initial.entries l.entries l.i
