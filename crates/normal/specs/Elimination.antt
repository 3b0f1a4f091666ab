-- The linear system of p unknowns, in document 01's words. A system is a matrix whose column p is the right side. Definitions only.
-- Rows are subtracted whole. What then stands below the diagonal in a column that is done is never read again, and the code leaves it as it was.
use Rattle.std.specs.Prelude.{ℕ, zero, suc, ◌+◌, ◌-◌, Bool, not, cond, List, [], ◌∷◌, ltb, eqb, get_or, Float}
use Rattle.std.specs.Float.{nan, binary64}
use Rattle.std.specs.Float.Ieee.{sub, mul, div, lt, eq}
use Rattle.lists.specs.All.{all_below}
use Rattle.floats.specs.Basic.{magnitude}
use Rattle.floats.specs.Constants.{zero64}
use Rattle.normal.specs.Products.{Matrix}

-- "the largest magnitude on or below the diagonal, the upper row on ties (a comparison with NaN is false)": in column c, of row c and the n rows below it
unfoldable pub pivot_row : Matrix → ℕ → ℕ → ℕ
pivot_row a c zero = c
pivot_row a c (suc n) = let best = pivot_row a c n in cond (lt (magnitude (a best c)) (magnitude (a (c + suc n) c))) (c + suc n) best

-- rows r and s exchanged
unfoldable pub exchanged : ℕ → ℕ → Matrix → Matrix
exchanged r s a i = cond (eqb i r) (a s) (cond (eqb i s) (a r) (a i))

-- "subtracts factor × row, right side included, with factor = entry / pivot": row c from each row below it
unfoldable pub reduced : ℕ → Matrix → Matrix
reduced c a i j = cond (ltb c i) (sub binary64 (a i j) (mul binary64 (div binary64 (a i c) (a c c)) (a c j))) (a i j)

-- column c of p with its pivot on the diagonal
unfoldable pub pivoted : ℕ → ℕ → Matrix → Matrix
pivoted p c a = exchanged c (pivot_row a c (p - suc c)) a

-- "column by column": the first c columns done
unfoldable pub eliminated : ℕ → Matrix → ℕ → Matrix
eliminated p a zero = a
eliminated p a (suc c) = reduced c (pivoted p c (eliminated p a c))

-- the pivot of column c
unfoldable pub pivot_of : ℕ → Matrix → ℕ → Float
pivot_of p a c = pivoted p c (eliminated p a c) c c

-- "A zero pivot means no solution", -0.0 and the last column's too
unfoldable pub solvable : ℕ → Matrix → Bool
solvable p a = all_below (λ (c : ℕ). not (eq (pivot_of p a c) zero64)) p

-- "the right side, less entry × unknown one column at a time, columns rising": in row i, for the first n of the unknowns behind the diagonal
unfoldable pub right_side : ℕ → Matrix → ℕ → List Float → ℕ → Float
right_side p a i xs zero = a i p
right_side p a i xs (suc n) = sub binary64 (right_side p a i xs n) (mul binary64 (a i (suc i + n)) (get_or xs n nan))

-- "then solves upward from the last unknown": the last n unknowns
unfoldable pub unknowns : ℕ → Matrix → ℕ → List Float
unknowns p a zero = []
unknowns p a (suc n) = let xs = unknowns p a n in let i = p - suc n in div binary64 (right_side p a i xs n) (a i i) ∷ xs

unfoldable pub solution_of : ℕ → Matrix → List Float
solution_of p a = unknowns p (eliminated p a p) p
