-- The damage test is lent words, counts, numbers and surfaces of a held row; what it says holds whatever the other arrays are. Definitions only.
use Rattle.std.specs.Prelude.{ℕ, List, [], Float}
use Rattle.runs.specs.State.{State}
use Rattle.held.specs.declared.types.HeldRow.{HeldRow}
use Rattle.held.specs.RowFrom.{held_state}

pub record Others : Type 0 where
  pub scalars : List Float
  pub jacobian : List Float
  pub values : List Float
  pub residuals : List Float
  pub plus_residuals : List Float
  pub params : List Float
  pub candidate : List Float
  pub best_values : List Float
  pub best_residuals : List Float

abbrev pub held_with : (words counts : List ℕ) (numbers surfaces best_surfaces : List Float) → Others → HeldRow
held_with words counts numbers surfaces best_surfaces o = record {
  head = record { words = words; scalars = o.scalars };
  job = record { counts = counts; numbers = numbers };
  run = record {
    surfaces = surfaces;
    jacobian = o.jacobian;
    values = o.values;
    residuals = o.residuals;
    plus_residuals = o.plus_residuals;
    params = o.params;
    candidate = o.candidate;
  };
  best = record { surfaces = best_surfaces; values = o.best_values; residuals = o.best_residuals };
}

-- the run's state, which has nothing of the job
abbrev pub state_with : (words : List ℕ) (surfaces best_surfaces : List Float) → Others → State
state_with words surfaces best_surfaces o = held_state (held_with words [] [] surfaces best_surfaces o)
