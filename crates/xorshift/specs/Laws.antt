-- Laws for those who draw again and again: words stay below 2 ^ 64, and draws add up.
use Rattle.std.specs.Prelude.{◌≡◌, ℕ, zero, suc, ◌+◌, ◌%◌, ◌^◌, ◌<◌}
use Rattle.std.proofs.Common.{add-zero, add-suc, mod-lt, lt_of_le_of_lt, pow_pos}
use Rattle.std.specs.Int.Bits.{bit_xor}
use Rattle.std.proofs.lemmas.Nat.{xor_lt, shr_le}
use Rattle.xorshift.specs.Xorshift.{shifted_right, xored_right, step_of, step_times}

-- however far it is shifted
left_below : {x : ℕ} (y : ℕ) → x < 2 ^ 64 → bit_xor x (y % 2 ^ 64) < 2 ^ 64
left_below {x} y h = xor_lt 64 x (y % 2 ^ 64) h (mod-lt y (pow_pos 64))

right-below : (k : ℕ) {x : ℕ} → x < 2 ^ 64 → xored_right k x < 2 ^ 64
right-below k {x} h = xor_lt 64 x (shifted_right x k) h (lt_of_le_of_lt (shr_le x k) h)

pub step-below : {x : ℕ} → x < 2 ^ 64 → step_of x < 2 ^ 64
unfolding step_of
step-below h = left_below _ (right-below 7 (left_below _ h))

pub times_below : (n : ℕ) {x : ℕ} → x < 2 ^ 64 → step_times n x < 2 ^ 64
unfolding step_times
times_below zero h = h
times_below (suc n) h = step-below (times_below n h)

-- n draws, then m more
pub times-add : (n m x : ℕ) → step_times (n + m) x ≡ step_times m (step_times n x)
unfolding step_times
times-add n zero x = rw add-zero
times-add n (suc m) x = rw (add-suc, times-add n m x)
