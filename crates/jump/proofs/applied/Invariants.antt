-- `jump::applied` meets its contract: what is summed, with what is left of the words at what is left of the bits, is the whole. Assumes nothing.
use Prim.Native.Nat.{◌+◌, ◌*◌, ◌≤◌}
use lib.ListN.{length}
use Rattle.jump.proofs.Turns.{Summed}
use Rattle.jump.proofs.applied.Given as goal

abbrev pub invariant-loop-i : goal.invariant-loop-i
invariant-loop-i l = (inside : 64 * l.k + 64 ≤ length l.tables) × Summed l.tables l.k inside l.state l.sum l.bits l.i
