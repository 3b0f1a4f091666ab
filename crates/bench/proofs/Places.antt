-- A place of the bench beside the book's entry: what both say of it, and what a call makes of both. Assumes nothing.
use Rattle.std.specs.Prelude.{◌≡◌, refl, Bool, true, false, ℕ, suc, T, eqb, replicate}
use Rattle.std.proofs.Common.{sym, ap, ◌∙◌, subst}
use Rattle.std.proofs.lemmas.Bool.{false≢true}
use Rattle.std.specs.Float.Ieee.Fits.{and_i}
use Rattle.floats.specs.Constants.{zero64}
use Rattle.lists.specs.Tab.{tab}
use Rattle.optics.specs.Flat.{laid_flat}
use Rattle.merit.specs.declared.types.MeritEvaluation.{MeritEvaluation}
use Rattle.jobs.specs.declared.types.Job.{Job}
use Rattle.jobs.specs.declared.types.Method.{Method}
use Rattle.jobs.specs.declared.types.Method.TheVariants.{Damped, MultiStart, Annealing}
use Rattle.jobs.specs.Checks.{job_taken}
use Rattle.jobs.specs.Records.{method_kind, kind_of, record_of, job_of, known_kinds}
use Rattle.runs.specs.declared.types.Row.{Row}
use Rattle.runs.specs.Run.{Surfaces, value, value-done}
use Rattle.runs.specs.JobRun.{run}
use Rattle.runs.specs.Rows as Rows
use Rattle.runs.specs.Rows.{job_of_row, admitted, pending_surfaces, advance}
use Rattle.runs.specs.Damage.{damaged}
use Rattle.runs.proofs.RowLaws.{resumption-done, kind-admitted, kind-advance, turns-admitted, turns-advance}
use Rattle.runs.specs.RowAfter.{turned_unless, row_after}
use Rattle.runs.proofs.Turned.{reached, row-stands, finished-done, job-after}
use Rattle.runs.proofs.DamageLaws.{never-damaged}
use Rattle.runs.specs.JobMerit.{evaluate_of}
use Rattle.runs.specs.Turn.{turned}
use Rattle.runs.proofs.Usable.{usable}
use Rattle.runs.proofs.Lengths.{whole-after}
use Rattle.held.specs.RowFrom.{row_from}
use Rattle.held.specs.Written.{held_from, held_counts, held_numbers, in_turn}
use Rattle.held.specs.RowBack.{FullJob, Full, row_back}
use Rattle.held.specs.declared.types.HeldRow.{HeldRow}
use Rattle.bench.proofs.Admission.{Admissible, kinds-known}
use Rattle.bench.specs.Book.{Entry, empty, holds, is_empty, is_finished, result_of, count_of}
use Rattle.bench.specs.Benches.{zero_row, no_row}
use Rattle.bench.specs.Calls.{is_vacant}

-- ---- what holds after every list of calls: the row is the job's after as many turns
pub record Holding (r : Row) (job : Job) (count : ℕ) : Type 0 where
  pub admissible : Admissible job
  pub row : r ≡ row_after (evaluate_of job) count job
  pub turns : r.turns ≡ count

abbrev pub KeptRow : Row → Entry → Type 0
KeptRow r empty = r ≡ zero_row
KeptRow r (holds job count) = Holding r job count

-- and it is held as it is read
pub record Kept (h : HeldRow) (e : Entry) : Type 0 where
  pub row : KeptRow (row_from h) e
  pub same : h ≡ held_from (row_from h)

-- ---- what the calls ask of a place
pub record Alike (r : Row) (e : Entry) : Type 0 where
  pub vacant : is_vacant r ≡ is_empty e
  pub sound : is_empty e ≡ false → damaged r ≡ false
  pub finished : is_empty e ≡ false → Rows.is_finished r ≡ is_finished e
  pub result : is_empty e ≡ false → Rows.is_finished r ≡ true → Rows.result_of r ≡ result_of e
  pub turns : r.turns ≡ count_of e

-- where the row's kind is 0 three of these are not asked
alike-empty : (r : Row) → is_vacant r ≡ true → r.turns ≡ 0 → Alike r empty
alike-empty r v t = record {
  vacant = v;
  sound = λ h. absurd (false≢true (sym h));
  finished = λ h. absurd (false≢true (sym h));
  result = λ h f. absurd (false≢true (sym h));
  turns = t;
}

pub zero-vacant : is_vacant zero_row ≡ true
unfolding zero_row
zero-vacant = refl

zero-turns : zero_row.turns ≡ 0
unfolding zero_row
zero-turns = refl

-- "the empty bench from which others are reached is all zero": so is each array of an empty place
pub zero_held : held_from zero_row ≡ record {
  head = record { words = replicate 13 0; scalars = replicate 7 zero64 };
  job = record { counts = replicate 73 0; numbers = replicate 195 zero64 };
  run =
      record {
        surfaces = replicate 64 zero64;
        jacobian = replicate 96 zero64;
        values = replicate 12 zero64;
        residuals = replicate 12 zero64;
        plus_residuals = replicate 12 zero64;
        params = replicate 8 zero64;
        candidate = replicate 8 zero64;
      };
  best = record { surfaces = replicate 64 zero64; values = replicate 12 zero64; residuals = replicate 12 zero64 };
}
unfolding zero_row held_counts held_numbers in_turn laid_flat tab
zero_held = refl

pub alike-past : Alike (row_from no_row) empty
alike-past = alike-empty (row_from no_row) refl refl

module _ (job : Job) (a : Admissible job) where
  abbrev f : Surfaces → MeritEvaluation
  f = evaluate_of job

  kind-taken : (m : Method) → eqb (method_kind m) 0 ≡ false
  kind-taken (Damped config) = refl
  kind-taken (MultiStart config) = refl
  kind-taken (Annealing config) = refl

  pub not-vacant : (count : ℕ) → is_vacant (row_after f count job) ≡ false
  not-vacant count =
      reached f (λ (r : Row). is_vacant r ≡ false) job (ap (λ (k : ℕ). eqb k 0) (kind-admitted job) ∙ kind-taken job.method)
      (λ r u h. ap (λ (k : ℕ). eqb k 0) (kind-advance r (f (pending_surfaces r))) ∙ h) count

  result-after : (count : ℕ) → Rows.is_finished (row_after f count job) ≡ true → Rows.result_of (row_after f count job) ≡ value f (run job)
  result-after count h =
      sym (value-done f count (run job) (Rows.result_of (row_after f count job))
      (sym (row-stands f job a.back count) ∙ resumption-done (row_after f count job) h))

  pub undamaged : (count : ℕ) → damaged (row_after f count job) ≡ false
  undamaged count =
      never-damaged f job a.back (usable job a.taken)
      (and_i (job_taken (job_of (kind_of job) (record_of job))) (known_kinds (record_of job)) (subst T (sym (ap job_taken a.back ∙ a.taken)) tt)
      (kinds-known job a)) count

  alike-after : (count : ℕ) → (row_after f count job).turns ≡ count → Alike (row_after f count job) (holds job count)
  alike-after count t = record {
    vacant = not-vacant count;
    sound = λ h. undamaged count;
    finished = λ h. finished-done f job a.back count;
    result = λ h u. result-after count u;
    turns = t;
  }

pub alike : (r : Row) (e : Entry) → KeptRow r e → Alike r e
alike r empty k = alike-empty r (ap is_vacant k ∙ zero-vacant) (ap (λ (r : Row). r.turns) k ∙ zero-turns)
alike r (holds job count) k =
    subst (λ (r : Row). Alike r (holds job count)) (sym k.row)
    (alike-after job k.admissible count (ap (λ (r : Row). r.turns) (sym k.row) ∙ k.turns))

-- ---- every entry is there, so that the row is read as it was written
full-zero : Full zero_row
unfolding zero_row
full-zero = record { job = record { surfaces = refl; indices = refl; variables = refl; operands = refl }; surfaces = refl; best_surfaces = refl }

full-after : (job : Job) → Admissible job → (count : ℕ) → Full (row_after (evaluate_of job) count job)
unfolding admitted advance
full-after job a count =
    let w = whole-after (evaluate_of job) job a.back a.full.surfaces count in
    record { job = reached (evaluate_of job) (λ (r : Row). FullJob r.job) job a.full (λ r u h. h) count; surfaces = w.damped; best_surfaces = w.best }

full-row : (r : Row) (e : Entry) → KeptRow r e → Full r
full-row r empty k = subst Full (sym k) full-zero
full-row r (holds job count) k = subst Full (sym k.row) (full-after job k.admissible count)

pub held_kept : (r : Row) (e : Entry) → KeptRow r e → Kept (held_from r) e
held_kept r e k =
    let back = row_back r (full-row r e k) in
    record { row = subst (λ (r : Row). KeptRow r e) (sym back) k; same = ap held_from (sym back) }

-- ---- a place that is admitted to, and one that is turned
pub kept-admitted : (job : Job) → Admissible job → KeptRow (admitted job) (holds job 0)
unfolding row_after
kept-admitted job a = record { admissible = a; row = refl; turns = turns-admitted job }

pub kept-turned : (r : Row) (job : Job) (count : ℕ) → Rows.is_finished r ≡ false → Holding r job count → Holding (turned r) job (suc count)
unfolding row_after turned_unless turned
kept-turned r job count u k = record { admissible = k.admissible; row = same_row; turns = turns-advance r _ ∙ ap suc k.turns }
  where
    same-job : job_of_row r ≡ job
    same-job = ap job_of_row k.row ∙ job-after (evaluate_of job) job k.admissible.back count

    same_row : turned r ≡ row_after (evaluate_of job) (suc count) job
    same_row =
        ap (λ (j : Job). advance r (evaluate_of j (pending_surfaces r))) same-job
        ∙ ap (λ (x : Row). advance x (evaluate_of job (pending_surfaces x))) k.row
        ∙ sym (ap (λ (b : Bool). turned_unless (evaluate_of job) b (row_after (evaluate_of job) count job)) (sym (ap Rows.is_finished k.row) ∙ u))
