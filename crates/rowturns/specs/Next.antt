-- What the next turn of a row works out. Definitions only.
use Rattle.std.specs.Prelude.{ℕ, Result}
use Rattle.refusals.specs.Numbers.{value_unless}
use Rattle.normal.specs.Layout.{scratch_length}
use Rattle.runs.specs.declared.types.Row.{Row}
use Rattle.runs.specs.Rows.{job_of_row, pending_surfaces}
use Rattle.runs.specs.JobMerit.{evaluate_of}
use Rattle.rows.specs.Calls.{turn_row_number}
use Rattle.rowturns.specs.declared.types.Pending.{Pending}

-- the surfaces whose merit a turn works out, and that merit
abbrev pub next_of : Row → Pending
next_of r = record { surfaces = pending_surfaces r; merit = (evaluate_of (job_of_row r) (pending_surfaces r)).total_merit }

unfoldable pub pending_of : Row → Result Pending ℕ
pending_of r = value_unless (turn_row_number scratch_length r) (next_of r)
