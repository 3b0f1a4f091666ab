-- Sums and products of the normal equations. Assumes nothing.
use mathlib.Core.Path.{◌≡◌, refl, ap}
use Prim.Native.Nat.{ℕ, zero, suc, ◌+◌, ◌<◌}
use native.Mathlib.Numerals.{add-one}
use native.Mathlib.Omega.{arith}
use mathlib.Core.List.{List}
use lib.ListN.{get_or}
use lib.Ieee.{Float, nan, binary64, add, mul}
use Rattle.floatlaws.specs.Monotone.{mul-either}
use Rattle.floats.specs.Sqrt.{sqrt_of}
use Rattle.normal.specs.Layout.{jacobian_place}
use Rattle.normal.specs.Jacobian.{jacobian_at}
use Rattle.normal.specs.Products.{Matrix, Vector, sum_of, normal_product, norm_of}

pub sum_same : (f g : Vector) (n : ℕ) → ((k : ℕ) → k < n → f k ≡ g k) → sum_of f n ≡ sum_of g n
unfolding sum_of
sum_same f g zero h = refl
sum_same f g (suc n) h = λ i. add binary64 (sum_same f g n (λ k b. h k (omega arith)) i) (h n (omega arith) i)

-- a turn of a loop that sums
pub sum_step : (f : Vector) (s x : Float) (k : ℕ) → s ≡ sum_of f k → x ≡ f k → add binary64 s x ≡ sum_of f (k + 1)
unfolding sum_of
sum_step f s x k e h = rw (add-one, e, h)

-- the product matrix is symmetric to the bit
pub symmetric : (m : ℕ) (jacobian : Matrix) (i j : ℕ) → normal_product m jacobian i j ≡ normal_product m jacobian j i
unfolding normal_product
symmetric m jacobian i j =
    sum_same (λ (k : ℕ). mul binary64 (jacobian k i) (jacobian k j)) (λ (k : ℕ). mul binary64 (jacobian k j) (jacobian k i)) m
    (λ k b. mul-either binary64 (jacobian k i) (jacobian k j))

-- the norm goes by the first p
pub norm-same : (p : ℕ) (v w : Vector) → ((k : ℕ) → k < p → v k ≡ w k) → norm_of p v ≡ norm_of p w
unfolding norm_of
norm-same p v w h =
    ap sqrt_of (sum_same (λ (k : ℕ). mul binary64 (v k) (v k)) (λ (k : ℕ). mul binary64 (w k) (w k)) p (λ k b. λ i. mul binary64 (h k b i) (h k b i)))

-- an entry of a column of the flat Jacobian, counted from the column's first
pub column-entry : (jacobian : List Float) (first k q : ℕ) → first ≡ jacobian_place 0 q → get_or jacobian (first + k) nan ≡ jacobian_at jacobian k q
column-entry jacobian first k q e = ap (λ (x : ℕ). get_or jacobian x nan) (omega arith)
