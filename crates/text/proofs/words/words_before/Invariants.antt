-- `text::words::words_before` meets its contract. The loop's invariant: what is counted, and the words that begin from `b` on, are all.
-- Assumes nothing.
use Prim.Native.Nat.{◌+◌, ◌≤◌}
use mathlib.Core.Bool.{true}
use mathlib.Core.Path.{◌≡◌}
use lib.ListN.{drop}
use Rattle.text.specs.Words.{begun}
use Rattle.text.proofs.words.words_before.Given as goal

abbrev pub invariant-loop-b : goal.invariant-loop-b
invariant-loop-b l = (l.count ≤ l.b-index) × (l.count + begun l.is_between (drop l.b-index l.b-items) ≡ begun true l.b-items)
