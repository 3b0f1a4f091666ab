-- "One draw is linear over bits": a table of 64 words applied to a state is the words at the state's set bits, xored. Definitions only.
use Rattle.std.specs.Prelude.{List, [], ◌∷◌, ℕ, zero, suc, ◌/◌, ◌%◌}
use Rattle.std.specs.Int.Bits.{bit_xor}

-- a word at a set bit
abbrev pub taken : (bit word rest : ℕ) → ℕ
taken zero w r = r
taken (suc b) w r = bit_xor w r

-- the word of the lowest bit first
abbrev pub apply : (words : List ℕ) (state : ℕ) → ℕ
apply [] x = 0
apply (w ∷ ws) x = taken (x % 2) w (apply ws (x / 2))
