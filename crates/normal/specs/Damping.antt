-- The damping and the damped system. Definitions only.
use Rattle.std.specs.Prelude.{ℕ, cond, eqb, Float}
use Rattle.std.specs.Float.{binary64}
use Rattle.std.specs.Float.Ieee.{add, mul, div, neg, of_bits}
use Rattle.floats.specs.Basic.{magnitude, max_of, min_of}
use Rattle.normal.specs.Products.{Matrix, Vector}

-- "× 5 up to 1e8 after each attempt not accepted"
abbrev pub raised_of : Float → Float
raised_of d = min_of (mul binary64 d (of_bits binary64 0x4014_0000_0000_0000)) (of_bits binary64 0x4197_d784_0000_0000)

-- "/ 3 down to 1e-7 after one accepted"
abbrev pub eased_of : Float → Float
eased_of d = max_of (div binary64 d (of_bits binary64 0x4008_0000_0000_0000)) (of_bits binary64 0x3e7a_d7f2_9abc_af48)

-- 1e-6, below which a diagonal entry is not taken for the damping
abbrev pub least_diagonal : Float
least_diagonal = of_bits binary64 0x3eb0_c6f7_a0b5_ed8d

-- a diagonal entry, and damping × its magnitude, at least 1e-6
abbrev pub damped_diagonal : Float → Float → Float
damped_diagonal damping d = add binary64 d (mul binary64 damping (max_of (magnitude d) least_diagonal))

unfoldable pub damped : Float → Matrix → Matrix
damped damping h i j = cond (eqb i j) (damped_diagonal damping (h i j)) (h i j)

-- the damped matrix with the right side -g behind its p columns
unfoldable pub damped_system : ℕ → Float → Matrix → Vector → Matrix
damped_system p damping h g i j = cond (eqb j p) (neg (g i)) (damped damping h i j)
