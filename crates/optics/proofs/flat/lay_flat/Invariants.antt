-- `optics::flat::lay_flat` meets its contract. The loop's invariant: the surfaces passed are laid flat, and the rest of the slice stands. Assumes nothing.
use mathlib.Core.Path.{◌≡◌}
use Prim.Native.Nat.{◌*◌}
use mathlib.Core.List.{◌++◌}
use lib.ListN.{length, drop}
use Rattle.optics.specs.Flat.{laid_flat}
use Rattle.optics.proofs.flat.lay_flat.Given as goal

abbrev pub invariant-loop-k : goal.invariant-loop-k
invariant-loop-k l = (length l.flat ≡ length l.initial.flat) × (l.flat ≡ laid_flat l.surfaces l.k ++ drop (4 * l.k) l.initial.flat)
