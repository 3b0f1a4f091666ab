-- A turn of a row. Definitions only.
use Rattle.runs.specs.declared.types.Row.{Row}
use Rattle.runs.specs.JobMerit.{evaluate_of}
use Rattle.runs.specs.Rows.{job_of_row, pending_surfaces, advance}

-- "A turn works out one merit and goes on to just before the next, or to the end."
unfoldable pub turned : Row → Row
turned r = advance r (evaluate_of (job_of_row r) (pending_surfaces r))
