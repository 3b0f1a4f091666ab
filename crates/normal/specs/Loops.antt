-- What the inner functions leave in scratch. Definitions only: no contract that another crate sees cites one.
use Rattle.std.specs.Prelude.{◌≡◌, Bool, true, List, cond, ℕ, zero, suc, min, ◌+◌, ◌-◌, ◌≤◌, ◌<◌, eqb, length, get_or, set, Float}
use Rattle.std.proofs.lemmas.List.Edits.{sets}
use Rattle.std.specs.Float.{nan, binary64}
use Rattle.std.specs.Float.Ieee.{sub, mul, div}
use Rattle.lists.specs.Tab.{tab}
use Rattle.normal.specs.Layout.{product_at, system_at, system_length, gradient_at, step_at, place, system_place}
use Rattle.normal.specs.Products.{Matrix, Vector, normal_product, gradient_of}
use Rattle.normal.specs.Damping.{damped_system}
use Rattle.normal.specs.Elimination.{pivot_row, eliminated, solvable, right_side, unknowns}
use Rattle.normal.specs.Scratch.{Outside, product_in, system_in, gradient_in}

-- ---- elimination
-- The system a of p unknowns stands in its part after c columns were done: the rows above c from the diagonal on, the others from column c on.
-- No column before those is read again.
abbrev pub Live : ℕ → ℕ → List Float → Matrix → Type 0
Live p c l a = (i j : ℕ) → i < p → min i c ≤ j → j ≤ p → get_or l (system_place i j) nan ≡ a i j

pub record Eliminated (p : ℕ) (l l' : List Float) (r : Bool) : Type 0 where
  pub answer : (a : Matrix) → Live p 0 l a → r ≡ solvable p a
  pub done : (a : Matrix) → Live p 0 l a → r ≡ true → Live p p l' (eliminated p a p)
  pub long : length l' ≡ length l
  pub rest : (x : ℕ) → Outside system_at system_length x → get_or l' x nan ≡ get_or l x nan

-- ---- one loop each
-- the n numbers from index a on
abbrev pub part_of : List Float → ℕ → ℕ → List Float
part_of l a n = tab (λ (k : ℕ). get_or l (a + k) nan) n

abbrev pub parts_exchanged : ℕ → ℕ → ℕ → List Float → List Float
parts_exchanged a b n l = sets (sets l a (part_of l b n)) b (part_of l a n)

unfoldable pub pivot_brought : ℕ → ℕ → List Float → List Float
pivot_brought p c l = let r = pivot_row (system_in l) c (p - suc c) in cond (eqb r c) l (parts_exchanged (system_place c c) (system_place r c) (p + 1 - c) l)

abbrev pub part_subtracted : ℕ → ℕ → ℕ → Float → List Float → List Float
part_subtracted a b n factor l = sets l b (tab (λ (k : ℕ). sub binary64 (get_or l (b + k) nan) (mul binary64 factor (get_or l (a + k) nan))) n)

unfoldable pub row_reduced : ℕ → ℕ → Float → ℕ → List Float → List Float
row_reduced p c pivot r l = part_subtracted (system_place c (c + 1)) (system_place r (c + 1)) (p - c) (div binary64 (get_or l (system_place r c) nan) pivot) l

-- the first n rows below row c
unfoldable pub rows_reduced : ℕ → ℕ → Float → ℕ → List Float → List Float
rows_reduced p c pivot zero l = l
rows_reduced p c pivot (suc n) l = row_reduced p c pivot (suc c + n) (rows_reduced p c pivot n l)

-- unknown i out of those behind it
unfoldable pub unknown_in : ℕ → List Float → ℕ → Float
unknown_in p l i = div binary64 (right_side p (system_in l) i (part_of l (step_at + suc i) (p - suc i)) (p - suc i)) (system_in l i i)

abbrev pub solved_upward : ℕ → List Float → List Float
solved_upward p l = sets l step_at (unknowns p (system_in l) p)

unfoldable pub with_system_row : ℕ → Float → ℕ → List Float → List Float
with_system_row p damping i l = sets l (system_place i 0) (tab (damped_system p damping (product_in l) (gradient_in l) i) (p + 1))

-- the first n rows of the damped system
unfoldable pub with_system : ℕ → Float → ℕ → List Float → List Float
with_system p damping zero l = l
with_system p damping (suc n) l = with_system_row p damping n (with_system p damping n l)

-- the product of columns i and j
unfoldable pub with_product : ℕ → Matrix → ℕ → ℕ → List Float → List Float
with_product m jacobian i j l = set l (product_at + place i j) (normal_product m jacobian i j)

-- the first n of row i
unfoldable pub with_product_row : ℕ → Matrix → ℕ → ℕ → List Float → List Float
with_product_row m jacobian i zero l = l
with_product_row m jacobian i (suc n) l = with_product m jacobian i n (with_product_row m jacobian i n l)

-- the first n rows, each up to the diagonal
unfoldable pub with_products : ℕ → Matrix → ℕ → List Float → List Float
with_products m jacobian zero l = l
with_products m jacobian (suc n) l = with_product_row m jacobian n (suc n) (with_products m jacobian n l)

abbrev pub with_gradient : ℕ → Matrix → Vector → ℕ → List Float → List Float
with_gradient m jacobian residuals p l = sets l gradient_at (tab (gradient_of m jacobian residuals) p)
