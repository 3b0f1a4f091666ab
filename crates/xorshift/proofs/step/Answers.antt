-- `xorshift::step` meets its contract: the code drops the high bits before a shift to the left, the definition after it.
-- Assumes nothing.
use mathlib.Core.Path.{◌≡◌, sym, ◌∙◌}
use Prim.Native.Nat.{ℕ, ◌+◌, ◌*◌, ◌%◌, ◌^◌}
use native.Mathlib.Nat.{mod-lt, le_refl, mul-mod_left, add-zero}
use lib.Pow.{pow_pos, shl_exact, shl-shr, mod-pow-add}
use Rattle.xorshift.specs.Xorshift.{step_of}
use Rattle.xorshift.proofs.step.Goals as goal

-- bits dropped before a shift are those that the shift would push past the end

dropped : (j k x : ℕ) → x % 2 ^ j * 2 ^ k % 2 ^ (j + k) ≡ x * 2 ^ k % 2 ^ (j + k)
dropped j k x =
    shl_exact j k (j + k) (mod-lt x (pow_pos j)) (le_refl (j + k)) ∙ sym (mod-pow-add (x * 2 ^ k) j k ∙ simp (shl-shr, mul-mod_left, add-zero))

pub returns : goal.returns
unfolding step_of
returns c = rw (dropped 51 13, dropped 47 17)
