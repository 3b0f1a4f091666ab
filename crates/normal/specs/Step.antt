-- The step of one attempt, and the candidate that it leads to. Definitions only.
use Rattle.std.specs.Prelude.{ℕ, Bool, ◌&&◌, List, get_or, Float}
use Rattle.std.specs.Float.{nan}
use Rattle.lists.specs.All.{all_below}
use Rattle.floats.specs.Basic.{finite_of}
use Rattle.normal.specs.Products.{Matrix, Vector}
use Rattle.normal.specs.Damping.{damped_system}
use Rattle.normal.specs.Elimination.{solvable, solution_of}

-- the step out of the product matrix and the gradient
unfoldable pub step_of : ℕ → Float → Matrix → Vector → List Float
step_of p damping h g = solution_of p (damped_system p damping h g)

-- there is a step: the system has a solution, and all of it is finite
unfoldable pub step_found : ℕ → Float → Matrix → Vector → Bool
step_found p damping h g = solvable p (damped_system p damping h g) && all_below (λ (k : ℕ). finite_of (get_or (step_of p damping h g) k nan)) p
