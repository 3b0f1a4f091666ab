-- `same::arrays::are_same` meets its contract. The loop's invariant: every pair of entries passed is alike. Assumes nothing.
use Rattle.std.proofs.Common.{◌≡◌, ℕ, true, length, get_or}
use Rattle.lists.specs.All.{all_below}
use Rattle.same.proofs.arrays.are_same.Given as goal

abbrev pub invariant-loop-x : goal.invariant-loop-x
invariant-loop-x g l = (length l.a ≡ length l.b)
    × (all_below (λ (i : ℕ). g.T.SameBits.alike (get_or l.a i g.T.SameBits.none) (get_or l.b i g.T.SameBits.none)) (length l.yielded) ≡ true)
