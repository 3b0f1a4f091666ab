-- What stands in scratch, whose numbers are a list, before and after the calls that other crates make. Definitions only.
use Rattle.std.specs.Prelude.{◌≡◌, Bool, List, ◌⊎◌, ℕ, ◌+◌, ◌≤◌, ◌<◌, T, length, get_or, Float}
use Rattle.std.specs.Float.{nan}
use Rattle.normal.specs.Layout.{product_at, product_length, system_at, system_length, gradient_at, step_at, most_variables, place, system_place}
use Rattle.normal.specs.Products.{Matrix, Vector, normal_product, gradient_of, norm_of}
use Rattle.normal.specs.Elimination.{solvable, solution_of}
use Rattle.normal.specs.Step.{step_of, step_found}

-- the product matrix that stands in its part
abbrev pub product_in : List Float → Matrix
product_in l i j = get_or l (product_at + place i j) nan

-- the system that stands in its part
abbrev pub system_in : List Float → Matrix
system_in l i j = get_or l (system_place i j) nan

-- the gradient that stands in its part
abbrev pub gradient_in : List Float → Vector
gradient_in l i = get_or l (gradient_at + i) nan

-- x is outside the part of n numbers from index `at` on
abbrev pub Outside : ℕ → ℕ → ℕ → Type 0
Outside at n x = (x < at) ⊎ (at + n ≤ x)

-- a product matrix and a gradient stand in their parts, for p variables
pub record Stands (p : ℕ) (l : List Float) (h : Matrix) (g : Vector) : Type 0 where
  pub product : (i j : ℕ) → i < p → j < p → get_or l (product_at + place i j) nan ≡ h i j
  pub gradient : (i : ℕ) → i < p → get_or l (gradient_at + i) nan ≡ g i

-- scratch l became l' and r was answered: the normal equations of m operands and p variables stand there, and nothing else changed
pub record Equations (m p : ℕ) (jacobian : Matrix) (residuals : Vector) (l l' : List Float) (r : Float) : Type 0 where
  pub stand : Stands p l' (normal_product m jacobian) (gradient_of m jacobian residuals)
  pub norm : r ≡ norm_of p (gradient_of m jacobian residuals)
  pub long : length l' ≡ length l
  pub rest : (x : ℕ) → Outside product_at product_length x → Outside gradient_at most_variables x → get_or l' x nan ≡ get_or l x nan

-- a system of p unknowns stands in its part, with its right side behind the p columns
abbrev pub SystemStands : ℕ → List Float → Matrix → Type 0
SystemStands p l a = (i j : ℕ) → i < p → j ≤ p → get_or l (system_place i j) nan ≡ a i j

-- the solver's answer r, and beside it, in scratch l', the solution
pub record Solution (p : ℕ) (a : Matrix) (l' : List Float) (r : Bool) : Type 0 where
  pub answer : r ≡ solvable p a
  pub solution : T (solvable p a) → (k : ℕ) → k < p → get_or l' (step_at + k) nan ≡ get_or (solution_of p a) k nan

-- scratch l became l' and r was answered: whatever system stood there is solved, and nothing else changed but the system's part
pub record Solving (p : ℕ) (l l' : List Float) (r : Bool) : Type 0 where
  pub solved : (a : Matrix) → SystemStands p l a → Solution p a l' r
  pub long : length l' ≡ length l
  pub rest : (x : ℕ) → Outside system_at system_length x → Outside step_at most_variables x → get_or l' x nan ≡ get_or l x nan

-- the same for an attempt: a step is found or not, and where it is found it stands in its part
pub record Attempted (p : ℕ) (damping : Float) (h : Matrix) (g : Vector) (l' : List Float) (r : Bool) : Type 0 where
  pub answer : r ≡ step_found p damping h g
  pub step : T (step_found p damping h g) → (k : ℕ) → k < p → get_or l' (step_at + k) nan ≡ get_or (step_of p damping h g) k nan

pub record Attempt (p : ℕ) (damping : Float) (l l' : List Float) (r : Bool) : Type 0 where
  pub attempted : (h : Matrix) (g : Vector) → Stands p l h g → Attempted p damping h g l' r
  pub long : length l' ≡ length l
  pub rest : (x : ℕ) → Outside system_at system_length x → Outside step_at most_variables x → get_or l' x nan ≡ get_or l x nan
