-- Where each entry stands in the arrays of a held row: no other file of definitions has an offset, as `src/places.rt` is the one of the code. Definitions only.
use Rattle.std.specs.Prelude.{ℕ, ◌+◌, ◌*◌}

-- ---- words: the row's whole numbers
abbrev pub kind_at : ℕ
kind_at = 0

abbrev pub turns_at : ℕ
turns_at = 1

abbrev pub phase_at : ℕ
phase_at = 2

abbrev pub iteration_at : ℕ
iteration_at = 3

abbrev pub column_at : ℕ
column_at = 4

abbrev pub attempt_at : ℕ
attempt_at = 5

abbrev pub converged_at : ℕ
converged_at = 6

abbrev pub generator_at : ℕ
generator_at = 7

abbrev pub trial_at : ℕ
trial_at = 8

abbrev pub cycle_at : ℕ
cycle_at = 9

abbrev pub step_at : ℕ
step_at = 10

abbrev pub best_iterations_at : ℕ
best_iterations_at = 11

abbrev pub best_converged_at : ℕ
best_converged_at = 12

-- ---- scalars: its merits, its damping and its temperature
abbrev pub initial_merit_at : ℕ
initial_merit_at = 0

abbrev pub damping_at : ℕ
damping_at = 1

abbrev pub temperature_at : ℕ
temperature_at = 2

abbrev pub current_merit_at : ℕ
current_merit_at = 3

abbrev pub total_merit_at : ℕ
total_merit_at = 4

abbrev pub best_initial_merit_at : ℕ
best_initial_merit_at = 5

abbrev pub best_final_merit_at : ℕ
best_final_merit_at = 6

-- ---- counts: the whole numbers of the job
abbrev pub surface_count_at : ℕ
surface_count_at = 0

abbrev pub slot_count_at : ℕ
slot_count_at = 1

abbrev pub variable_count_at : ℕ
variable_count_at = 2

abbrev pub operand_count_at : ℕ
operand_count_at = 3

abbrev pub max_iterations_at : ℕ
max_iterations_at = 4

abbrev pub num_trials_at : ℕ
num_trials_at = 5

abbrev pub steps_per_temperature_at : ℕ
steps_per_temperature_at = 6

abbrev pub max_cooling_cycles_at : ℕ
max_cooling_cycles_at = 7

abbrev pub seed_at : ℕ
seed_at = 8

-- those of variable i: its kind, its surface, its mark, its follower's sign, its follower's surface
abbrev pub variable_kind_at : (i : ℕ) → ℕ
variable_kind_at i = 9 + 5 * i

abbrev pub variable_surface_at : (i : ℕ) → ℕ
variable_surface_at i = 9 + 5 * i + 1

abbrev pub enabled_at : (i : ℕ) → ℕ
enabled_at i = 9 + 5 * i + 2

abbrev pub follows_at : (i : ℕ) → ℕ
follows_at i = 9 + 5 * i + 3

abbrev pub follower_at : (i : ℕ) → ℕ
follower_at i = 9 + 5 * i + 4

-- those of operand n: its kind, its slot or surface
abbrev pub operand_kind_at : (n : ℕ) → ℕ
operand_kind_at n = 49 + 2 * n

abbrev pub slot_or_surface_at : (n : ℕ) → ℕ
slot_or_surface_at n = 49 + 2 * n + 1

-- ---- numbers: those of the job. Its surfaces stand first, laid flat; then index k of the prescription's
abbrev pub index_at : (k : ℕ) → ℕ
index_at k = 64 + k

abbrev pub pupil_at : ℕ
pupil_at = 128

abbrev pub initial_damping_at : ℕ
initial_damping_at = 129

abbrev pub relative_merit_tolerance_at : ℕ
relative_merit_tolerance_at = 130

abbrev pub gradient_tolerance_at : ℕ
gradient_tolerance_at = 131

abbrev pub relative_step_at : ℕ
relative_step_at = 132

abbrev pub initial_temperature_at : ℕ
initial_temperature_at = 133

abbrev pub cooling_rate_at : ℕ
cooling_rate_at = 134

-- those of variable i: its bounds and its step
abbrev pub min_value_at : (i : ℕ) → ℕ
min_value_at i = 135 + 3 * i

abbrev pub max_value_at : (i : ℕ) → ℕ
max_value_at i = 135 + 3 * i + 1

abbrev pub step_size_at : (i : ℕ) → ℕ
step_size_at i = 135 + 3 * i + 2

-- those of operand n: its limit, its target, its weight
abbrev pub limit_at : (n : ℕ) → ℕ
limit_at n = 159 + 3 * n

abbrev pub target_at : (n : ℕ) → ℕ
target_at n = 159 + 3 * n + 1

abbrev pub weight_at : (n : ℕ) → ℕ
weight_at n = 159 + 3 * n + 2
