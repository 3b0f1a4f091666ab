-- Held rows and rows are one to one: a held row is written as it was read, and a row is read as it was written. Assumes nothing.
use Rattle.std.specs.Prelude.{◌≡◌, List, ℕ, Float, length, get_or}
use Rattle.std.proofs.Math.Path.{refl}
use Rattle.std.proofs.Common.{sym, ap, ◌∙◌, append-nil}
use Rattle.std.specs.Float.Ieee.{nan}
use Rattle.lists.specs.Tab.{tab, length-tab}
use Rattle.optics.specs.Types.{no_surface}
use Rattle.optics.specs.Flat.{laid_flat}
use Rattle.optics.specs.declared.types.OpticalSurface.{OpticalSurface}
use Rattle.jobs.specs.declared.types.JobRecord.{JobRecord}
use Rattle.jobs.specs.Entries.{no_variable_record, no_operand_record}
use Rattle.runs.specs.declared.types.Row.{Row}
use Rattle.held.specs.declared.types.HeldRow.{HeldRow}
use Rattle.held.specs.JobFrom.{standing, indices_from, variable_records_from, operand_records_from, job_record_from}
use Rattle.held.specs.RowFrom.{kind_from, turns_from, head_from, row_from, Long}
use Rattle.held.specs.Written.{in_turn, held_counts, held_numbers, held_words, held_scalars, held_from}
use Rattle.held.specs.EntryLaws.{indices-long}
use Rattle.held.specs.Standing.{whole, standing-laid, laid-standing, standing-long}

-- every array of a job's record, and of a row, has its length
pub record FullJob (r : JobRecord) : Type 0 where
  pub surfaces : length r.surfaces ≡ 16
  pub indices : length r.indices ≡ 64
  pub variables : length r.variables ≡ 8
  pub operands : length r.operands ≡ 12

pub record Full (r : Row) : Type 0 where
  pub job : FullJob r.job
  pub surfaces : length r.damped.surfaces ≡ 16
  pub best_surfaces : length r.best.surfaces ≡ 16

-- ---- read, then written
counts-read : (counts : List ℕ) (numbers : List Float) → held_counts (job_record_from counts numbers) ≡ tab (λ (i : ℕ). get_or counts i 0) 73
unfolding held_counts in_turn variable_records_from operand_records_from tab
counts-read counts numbers = refl

numbers-read : (counts : List ℕ) (numbers : List Float) → held_numbers (job_record_from counts numbers) ≡ tab (λ (i : ℕ). get_or numbers i nan) 195
unfolding held_numbers in_turn variable_records_from operand_records_from indices_from standing laid_flat tab
numbers-read counts numbers = refl

words-read : (words : List ℕ) (scalars : List Float)
    → held_words (kind_from words) (turns_from words) (head_from words scalars) ≡ tab (λ (i : ℕ). get_or words i 0) 13
unfolding tab
words-read words scalars = refl

scalars-read : (words : List ℕ) (scalars : List Float) → held_scalars (head_from words scalars) ≡ tab (λ (i : ℕ). get_or scalars i nan) 7
unfolding tab
scalars-read words scalars = refl

counts-back : (counts : List ℕ) (numbers : List Float) → length counts ≡ 73 → held_counts (job_record_from counts numbers) ≡ counts
counts-back counts numbers e = counts-read counts numbers ∙ whole counts 0 73 e

numbers-back : (counts : List ℕ) (numbers : List Float) → length numbers ≡ 195 → held_numbers (job_record_from counts numbers) ≡ numbers
numbers-back counts numbers e = numbers-read counts numbers ∙ whole numbers nan 195 e

words_back : (words : List ℕ) (scalars : List Float) → length words ≡ 13 → held_words (kind_from words) (turns_from words) (head_from words scalars) ≡ words
words_back words scalars e = words-read words scalars ∙ whole words 0 13 e

scalars-back : (words : List ℕ) (scalars : List Float) → length scalars ≡ 7 → held_scalars (head_from words scalars) ≡ scalars
scalars-back words scalars e = scalars-read words scalars ∙ whole scalars nan 7 e

pub held_back : (h : HeldRow) → Long h → held_from (row_from h) ≡ h
held_back h l = λ i. record {
  head = record {
    words = words_back h.head.words h.head.scalars l.words i;
    scalars = scalars-back h.head.words h.head.scalars l.scalars i;
  };
  job = record { counts = counts-back h.job.counts h.job.numbers l.counts i; numbers = numbers-back h.job.counts h.job.numbers l.numbers i };
  run = record {
    surfaces = laid-standing h.run.surfaces l.surfaces i;
    jacobian = h.run.jacobian;
    values = h.run.values;
    residuals = h.run.residuals;
    plus_residuals = h.run.plus_residuals;
    params = h.run.params;
    candidate = h.run.candidate;
  };
  best = record {
    surfaces = laid-standing h.best.surfaces l.best_surfaces i;
    values = h.best.values;
    residuals = h.best.residuals;
  };
}

-- so two held rows that stand for one row are one
pub one-row : (a b : HeldRow) → Long a → Long b → row_from a ≡ row_from b → a ≡ b
one-row a b l m e = sym (held_back a l) ∙ ap held_from e ∙ held_back b m

-- ---- written, then read
module _ (r : JobRecord) where
  surfaces-written : standing (held_numbers r) ≡ tab (λ (i : ℕ). get_or r.surfaces i no_surface) 16
  unfolding held_numbers standing laid_flat tab in_turn
  surfaces-written = refl

  indices-written : indices_from (held_numbers r) ≡ tab (λ (k : ℕ). get_or r.indices k nan) 64
  unfolding held_numbers indices_from laid_flat tab in_turn
  indices-written = refl

  variables-written : variable_records_from (held_counts r) (held_numbers r) ≡ tab (λ (i : ℕ). get_or r.variables i no_variable_record) 8
  unfolding held_counts held_numbers variable_records_from laid_flat tab in_turn
  variables-written = refl

  operands-written : operand_records_from (held_counts r) (held_numbers r) ≡ tab (λ (n : ℕ). get_or r.operands n no_operand_record) 12
  unfolding held_counts held_numbers operand_records_from laid_flat tab in_turn
  operands-written = refl

  pub job-back : FullJob r → job_record_from (held_counts r) (held_numbers r) ≡ r
  unfolding held_counts held_numbers laid_flat tab in_turn
  job-back f = λ i. record {
    surfaces = (surfaces-written ∙ whole r.surfaces no_surface 16 f.surfaces) i;
    indices = (indices-written ∙ whole r.indices nan 64 f.indices) i;
    variables = (variables-written ∙ whole r.variables no_variable_record 8 f.variables) i;
    operands = (operands-written ∙ whole r.operands no_operand_record 12 f.operands) i;
    surface_count = r.surface_count;
    slot_count = r.slot_count;
    variable_count = r.variable_count;
    operand_count = r.operand_count;
    entrance_pupil_diameter_mm = r.entrance_pupil_diameter_mm;
    settings = r.settings;
  }

stands-again : (s : List OpticalSurface) → length s ≡ 16 → standing (laid_flat s 16) ≡ s
stands-again s e = ap standing (sym (append-nil (laid_flat s 16))) ∙ standing-laid s _ e

pub row_back : (r : Row) → Full r → row_from (held_from r) ≡ r
row_back r f = λ i. record {
  job = job-back r.job f.job i;
  damped = record {
    surfaces = stands-again r.damped.surfaces f.surfaces i;
    jacobian = r.damped.jacobian;
    evaluation = r.damped.evaluation;
    plus_residuals = r.damped.plus_residuals;
    params = r.damped.params;
    candidate = r.damped.candidate;
    initial_merit = r.damped.initial_merit;
    damping = r.damped.damping;
    phase = r.damped.phase;
    iteration = r.damped.iteration;
    column = r.damped.column;
    attempt = r.damped.attempt;
    converged = r.damped.converged;
  };
  best = record {
    surfaces = stands-again r.best.surfaces f.best_surfaces i;
    values = r.best.values;
    residuals = r.best.residuals;
    initial_merit = r.best.initial_merit;
    final_merit = r.best.final_merit;
    iterations = r.best.iterations;
    converged = r.best.converged;
  };
  kind = r.kind;
  turns = r.turns;
  generator = r.generator;
  trial = r.trial;
  cycle = r.cycle;
  step = r.step;
  temperature = r.temperature;
  current_merit = r.current_merit;
}

-- ---- lengths: a row that is read has its own, and so has what is written of a job
pub read-full : (h : HeldRow) → Full (row_from h)
unfolding variable_records_from operand_records_from
read-full h = record {
  job = record { surfaces = standing-long h.job.numbers; indices = indices-long h.job.numbers; variables = length-tab _ 8; operands = length-tab _ 12 };
  surfaces = standing-long h.run.surfaces;
  best_surfaces = standing-long h.best.surfaces;
}

pub counts-long : (r : JobRecord) → length (held_counts r) ≡ 73
unfolding held_counts in_turn
counts-long r = refl

pub numbers-long : (r : JobRecord) → length (held_numbers r) ≡ 195
unfolding held_numbers in_turn laid_flat tab
numbers-long r = refl
