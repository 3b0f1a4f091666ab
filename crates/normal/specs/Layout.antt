-- Where the parts of scratch stand, and where an entry stands in its part. Definitions only: the code has the same numbers in `layout.rt`.
use Rattle.std.specs.Prelude.{ℕ, zero, suc, max, min, ◌+◌, ◌*◌}

-- the `f64` of scratch that a turn uses
abbrev pub scratch_length : ℕ
scratch_length = 128

-- the product matrix, J^T J: it is symmetric to the bit, so that its lower triangle serves
abbrev pub product_at : ℕ
product_at = 0

abbrev pub product_length : ℕ
product_length = 36

-- the matrix being solved, with its right side
abbrev pub system_at : ℕ
system_at = 36

abbrev pub system_length : ℕ
system_length = 72

-- a row of it has room for the right side too
abbrev pub system_width : ℕ
system_width = 9

-- the gradient, J^T r
abbrev pub gradient_at : ℕ
gradient_at = 108

-- the solution of the damped system
abbrev pub step_at : ℕ
step_at = 116

-- the most variables, and the most operands
abbrev pub most_variables : ℕ
most_variables = 8

abbrev pub most_operands : ℕ
most_operands = 12

-- where row i of the triangle begins: behind rows of 1, 2, .., i entries
unfoldable pub row_start : ℕ → ℕ
row_start zero = 0
row_start (suc i) = row_start i + suc i

-- the product of columns i and j of the Jacobian, in the product matrix's part; that of j and i stands there too
unfoldable pub place : ℕ → ℕ → ℕ
place i j = row_start (max i j) + min i j

-- row i and column j of the matrix being solved; its right side is the column behind the last unknown's
abbrev pub system_place : ℕ → ℕ → ℕ
system_place i j = system_at + (i * system_width + j)

-- operand i in column q of the Jacobian, which is held flat, a column after the other
abbrev pub jacobian_place : ℕ → ℕ → ℕ
jacobian_place i q = q * most_operands + i
