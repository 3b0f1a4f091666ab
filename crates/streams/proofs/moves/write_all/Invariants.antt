-- `streams::moves::write_all`: where there is nothing to write, the first turn ends it.
use Rattle.std.proofs.Common.{◌≡◌, length}
use Rattle.streams.proofs.moves.write_all.Given as goal

abbrev pub invariant-loop : goal.invariant-loop
invariant-loop l = length l.text ≡ 0 → (l.counter ≡ 0) × (length l.rest ≡ 0)
