-- J^T J, J^T r and the norm. Definitions only.
-- "Products and sums start at +0.0 and add operands in rising order; the norm is the root of the summed squares."
use Rattle.std.specs.Prelude.{ℕ, zero, suc, Float}
use Rattle.std.specs.Float.{binary64}
use Rattle.std.specs.Float.Ieee.{add, mul}
use Rattle.floats.specs.Constants.{zero64}
use Rattle.floats.specs.Sqrt.{sqrt_of}

-- a matrix by row and column, a vector by index
abbrev pub Matrix : Type 0
Matrix = ℕ → ℕ → Float

abbrev pub Vector : Type 0
Vector = ℕ → Float

-- +0.0 + f(0) + .. + f(n-1), from the left
unfoldable pub sum_of : Vector → ℕ → Float
sum_of f zero = zero64
sum_of f (suc k) = add binary64 (sum_of f k) (f k)

-- over m operands; the Jacobian's rows are operands, its columns variables
unfoldable pub normal_product : ℕ → Matrix → Matrix
normal_product m jacobian i j = sum_of (λ (k : ℕ). mul binary64 (jacobian k i) (jacobian k j)) m

unfoldable pub gradient_of : ℕ → Matrix → Vector → Vector
gradient_of m jacobian residuals i = sum_of (λ (k : ℕ). mul binary64 (jacobian k i) (residuals k)) m

-- over p variables
unfoldable pub norm_of : ℕ → Vector → Float
norm_of p v = sqrt_of (sum_of (λ (k : ℕ). mul binary64 (v k) (v k)) p)
