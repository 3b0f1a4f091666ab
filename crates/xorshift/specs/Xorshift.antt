-- Marsaglia's xorshift generator of 2003 with the triple 13, 7, 17, on whole numbers below 2 ^ 64.
use Rattle.std.specs.Prelude.{ℕ, zero, suc, ◌*◌, ◌/◌, ◌%◌, ◌^◌}
use Rattle.std.specs.Int.Bits.{bit_xor}

-- a 64-bit word shifted, "bits past the end dropped"
abbrev pub shifted_left : ℕ → ℕ → ℕ
shifted_left x k = x * 2 ^ k % 2 ^ 64

abbrev pub shifted_right : ℕ → ℕ → ℕ
shifted_right x k = x / 2 ^ k

-- a word "xored with itself shifted"
abbrev pub xored_left : ℕ → ℕ → ℕ
xored_left k x = bit_xor x (shifted_left x k)

abbrev pub xored_right : ℕ → ℕ → ℕ
xored_right k x = bit_xor x (shifted_right x k)

-- "A 64-bit state is xored with itself shifted left 13, right 7, left 17": one draw
unfoldable pub step_of : ℕ → ℕ
step_of x = xored_left 17 (xored_right 7 (xored_left 13 x))

-- "Seed 0 becomes hexadecimal 853c49e6748fea9b"; any other is the state that it names
unfoldable pub seeded : ℕ → ℕ
seeded zero = 0x853c49e6748fea9b
seeded (suc s) = suc s

-- the state after n draws
unfoldable pub step_times : ℕ → ℕ → ℕ
step_times zero x = x
step_times (suc n) x = step_of (step_times n x)
