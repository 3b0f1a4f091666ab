-- Rows and benches as values: "empty places are zero .. the empty bench from which others are reached is all zero". `zero_row` is 01's zero; `no_row` is the
-- checker's default for a read past the end. Definitions only.
use Rattle.std.specs.Prelude.{ℕ, [], get_or, set, replicate}
use Rattle.floats.specs.Constants.{zero64}
use Rattle.jobs.specs.Entries.{zero_variable_record, zero_operand_record}
use Rattle.jobs.specs.declared.types.JobRecord.{JobRecord}
use Rattle.jobs.specs.declared.types.SettingsRecord.{SettingsRecord}
use Rattle.runs.specs.DampedRow.{at_first}
use Rattle.runs.specs.State.{row_of, alone}
use Rattle.runs.specs.Zeros.{zero_surfaces}
use Rattle.runs.specs.declared.types.Row.{Row}
use Rattle.held.specs.RowFrom.{row_from}
use Rattle.held.specs.Written.{held_from}
use Rattle.held.specs.declared.types.HeldRow.{HeldRow}
use Rattle.bench.specs.declared.types.Bench.{Bench}

abbrev pub zero_settings : SettingsRecord
zero_settings = record {
  max_iterations = 0;
  initial_damping = zero64;
  relative_merit_tolerance = zero64;
  gradient_tolerance = zero64;
  finite_difference_relative_step = zero64;
  num_trials = 0;
  initial_temperature = zero64;
  cooling_rate = zero64;
  steps_per_temperature = 0;
  max_cooling_cycles = 0;
  seed = 0;
}

abbrev pub zero_job : JobRecord
zero_job = record {
  surfaces = zero_surfaces;
  indices = replicate 64 zero64;
  variables = replicate 8 zero_variable_record;
  operands = replicate 12 zero_operand_record;
  surface_count = 0;
  slot_count = 0;
  variable_count = 0;
  operand_count = 0;
  entrance_pupil_diameter_mm = zero64;
  settings = zero_settings;
}

-- a damped run before its first merit is zero but for its surfaces
unfoldable pub zero_row : Row
zero_row = row_of zero_job 0 0 (alone (at_first zero_surfaces))

abbrev pub empty_bench : Bench
empty_bench = record { rows = replicate 4 (held_from zero_row); next_place = 0 }

-- ---- A bench holds each row as arrays of numbers: `row_from` reads one, `held_from` writes one (held)
abbrev pub with_held : Bench → (place : ℕ) → HeldRow → Bench
with_held b place h = record { rows = set b.rows place h; next_place = b.next_place }

abbrev pub with_row : Bench → (place : ℕ) → Row → Bench
with_row b place r = with_held b place (held_from r)

abbrev pub no_row : HeldRow
no_row = record {
  head = record { words = []; scalars = [] };
  job = record { counts = []; numbers = [] };
  run = record { surfaces = []; jacobian = []; values = []; residuals = []; plus_residuals = []; params = []; candidate = [] };
  best = record { surfaces = []; values = []; residuals = [] };
}

abbrev pub held_at : Bench → (place : ℕ) → HeldRow
held_at b place = get_or b.rows place no_row

abbrev pub row_at : Bench → (place : ℕ) → Row
row_at b place = row_from (held_at b place)
