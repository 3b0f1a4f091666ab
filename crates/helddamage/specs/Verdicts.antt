-- What the tests of the code make of `record_taken` and `damaged`. Assumes nothing.
use Rattle.std.specs.Prelude.{◌≡◌, Bool, true, false, not, cond, ◌&&◌, ◌||◌, List, ℕ, zero, suc, ltb, eqb, Float}
use Rattle.std.proofs.Math.Path.{refl}
use Rattle.std.proofs.Common.{sym, ap, ◌∙◌, zero-lt-suc, arith, lt-ltb, ne_eqb}
use Rattle.lists.specs.All.{all_below}
use Rattle.optics.specs.Check.{lens_taken}
use Rattle.variables.specs.Active.{num_active}
use Rattle.variables.specs.Taken.{variables_taken, followers_taken}
use Rattle.merit.specs.Check.{operands_taken}
use Rattle.jobs.specs.declared.types.SettingsRecord.{SettingsRecord}
use Rattle.jobs.specs.Checks.{settings_taken, counts_taken, record_taken}
use Rattle.jobs.specs.declared.types.Method.{Method}
use Rattle.jobs.specs.declared.types.Method.TheVariants.{Damped, MultiStart, Annealing}
use Rattle.jobs.specs.Records.{dls_config, multi_start_config, annealing_config, method, known_variables, known_operands}
use Rattle.runs.specs.Rows.{is_finished, finished_by, bound}
use Rattle.runs.specs.Damage.{is_kind, state_sound, job_sound, turns_sound, damaged}
use Rattle.kinds.specs.Limits.{CountsWithin}
use Rattle.held.specs.declared.types.HeldRow.{HeldRow}
use Rattle.held.specs.JobFrom.{surface_count_from, slot_count_from, operand_count_from, settings_from, job_record_from, held_job, prescription_from}
use Rattle.held.specs.JobFrom.{variables_from}
use Rattle.held.specs.JobFrom.{operands_from}
use Rattle.held.specs.RowFrom.{kind_from, turns_from, held_state, row_from}

-- ---- two tests in one loop
pub first-fails : (a b : Bool) → a ≡ false → a && b ≡ false
first-fails a b e = ap (λ (t : Bool). t && b) e

pub second-fails : (a b : Bool) → b ≡ false → a && b ≡ false
second-fails true b e = e
second-fails false b e = refl

pub all_both : (s t : ℕ → Bool) (n : ℕ) → all_below (λ (i : ℕ). s i && t i) n ≡ all_below s n && all_below t n
unfolding all_below
all_both s t zero = refl
all_both s t (suc n) = ap (λ (b : Bool). b && (s n && t n)) (all_both s t n) ∙ swap (all_below s n) (all_below t n) (s n) (t n)
  where
    swap : (a b c d : Bool) → a && b && (c && d) ≡ a && c && (b && d)
    swap false b c d = refl
    swap true false false d = refl
    swap true false true d = refl
    swap true true c d = refl

-- ---- the job: the numbers of the list, and the kinds with the lists that they stand in
all-causes : (a b v f o s p m : Bool)
    → eqb (cond (not a) 1 (cond (not b) 3 (cond (not v) 4 (cond (not f) 17 (cond (not o) 5 (cond (not s) 6 (cond p 7 (cond m 8 0)))))))) 0
    ≡ a && b && (v && f) && o && s && not p && not m
all-causes false b v f o s p m = refl
all-causes true false v f o s p m = refl
all-causes true true false f o s p m = refl
all-causes true true true false o s p m = refl
all-causes true true true true false s p m = refl
all-causes true true true true true false p m = refl
all-causes true true true true true true true m = refl
all-causes true true true true true true false true = refl
all-causes true true true true true true false false = refl

with-kinds : (a b v o s p m k l : Bool) → a && b && v && o && s && p && m && (k && l) ≡ a && b && (v && k) && (o && l) && s && p && m
with-kinds false b v o s p m k l = refl
with-kinds true false v o s p m k l = refl
with-kinds true true false o s p m k l = refl
with-kinds true true true o s p m false l = none (o && s && p && m) ∙ refl
  where
    none : (x : Bool) → x && false ≡ false
    none true = refl
    none false = refl
with-kinds true true true false s p m true l = refl
with-kinds true true true true s p m true false = none (s && p && m) ∙ refl
  where
    none : (x : Bool) → x && false ≡ false
    none true = refl
    none false = refl
with-kinds true true true true s p m true true = all (s && p && m)
  where
    all : (x : Bool) → x && true ≡ x
    all true = refl
    all false = refl

module _ (counts : List ℕ) (numbers : List Float) (kind : ℕ) where
  pub record_is : record_taken kind (job_record_from counts numbers)
      ≡ counts_taken (held_job counts numbers kind)
      && lens_taken (prescription_from counts numbers)
      && (variables_taken (surface_count_from counts) (variables_from counts numbers)
      && followers_taken (surface_count_from counts) (variables_from counts numbers)
      && known_variables (job_record_from counts numbers))
      && (operands_taken (slot_count_from counts) (operands_from counts numbers) && known_operands (job_record_from counts numbers))
      && settings_taken (method kind (settings_from counts numbers))
      && not (eqb (num_active (variables_from counts numbers)) 0)
      && not (eqb (operand_count_from counts) 0)
  record_is =
      let a = counts_taken (held_job counts numbers kind) in
      let b = lens_taken (prescription_from counts numbers) in
      let v = variables_taken (surface_count_from counts) (variables_from counts numbers) in
      let f = followers_taken (surface_count_from counts) (variables_from counts numbers) in
      let o = operands_taken (slot_count_from counts) (operands_from counts numbers) in
      let s = settings_taken (method kind (settings_from counts numbers)) in
      let p = eqb (num_active (variables_from counts numbers)) 0 in
      let m = eqb (operand_count_from counts) 0 in
      let k = known_variables (job_record_from counts numbers) in
      let l = known_operands (job_record_from counts numbers) in
      ap (λ (t : Bool). t && (k && l)) (all-causes a b v f o s p m) ∙ with-kinds a b (v && f) o s (not p) (not m) k l

  -- the counts are looked at first
  pub counts-refused : counts_taken (held_job counts numbers kind) ≡ false → record_taken kind (job_record_from counts numbers) ≡ false
  counts-refused e = record_is ∙ rw e refl

-- ---- a count is above 0 when it is not 0
pub above_zero : (n : ℕ) → ltb 0 n ≡ not (eqb n 0)
above_zero zero = refl
above_zero (suc n) = lt-ltb 0 (suc n) (zero-lt-suc n) ∙ ap not (sym (ne_eqb (suc n) 0 no))
  where
    no : suc n ≡ 0 → ⊥
    no e = omega arith

-- ---- the method of a kind: whether its counts are within turns on the counts alone
pub within-any : (counts : List ℕ) (numbers numbers' : List Float) (kind : ℕ) → CountsWithin (method kind (settings_from counts numbers))
    → CountsWithin (method kind (settings_from counts numbers'))
unfolding method
within-any counts numbers numbers' kind h = go (eqb kind 1) (eqb kind 2) h
  where
    by : Bool → Bool → SettingsRecord → Method
    by a b s = cond a (Damped (dls_config s)) (cond b (MultiStart (multi_start_config s)) (Annealing (annealing_config s)))

    go : (a b : Bool) → CountsWithin (by a b (settings_from counts numbers)) → CountsWithin (by a b (settings_from counts numbers'))
    go true b h = h
    go false true h = h
    go false false h = h

-- ---- the row
module _ (h : HeldRow) where
  abbrev pub judged : Bool
  judged = damaged (row_from h)

  abbrev pub sound_state : Bool
  sound_state = state_sound (method (kind_from h.head.words) (settings_from h.job.counts h.job.numbers))
      (held_job h.job.counts h.job.numbers (kind_from h.head.words)) (held_state h)

  abbrev pub ended : Bool
  ended = finished_by (method (kind_from h.head.words) (settings_from h.job.counts h.job.numbers)) (held_state h)

  verdict : judged
      ≡ not (is_kind (kind_from h.head.words) && record_taken (kind_from h.head.words) (job_record_from h.job.counts h.job.numbers) && sound_state
      && (ended || ltb (turns_from h.head.words) (bound (held_job h.job.counts h.job.numbers (kind_from h.head.words)))))
  unfolding damaged job_sound turns_sound is_finished
  verdict = refl

  pub no_kind : is_kind (kind_from h.head.words) ≡ false → judged ≡ true
  no_kind e = verdict ∙ rw e refl

  module _ (k : is_kind (kind_from h.head.words) ≡ true) where
    pub no-job : record_taken (kind_from h.head.words) (job_record_from h.job.counts h.job.numbers) ≡ false → judged ≡ true
    no-job e = verdict ∙ rw (k, e) refl

    module _ (j : record_taken (kind_from h.head.words) (job_record_from h.job.counts h.job.numbers) ≡ true) where
      pub no-state : sound_state ≡ false → judged ≡ true
      no-state e = verdict ∙ rw (k, j, e) refl

      module _ (s : sound_state ≡ true) where
        pub at-end : ended ≡ true → judged ≡ false
        at-end e = verdict ∙ rw (k, j, s, e) refl

        pub before-end : ended ≡ false → judged ≡ not (ltb (turns_from h.head.words) (bound (held_job h.job.counts h.job.numbers (kind_from h.head.words))))
        before-end e = verdict ∙ rw (k, j, s, e) refl
