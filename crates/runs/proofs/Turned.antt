-- A row turned again and again under an evaluation stands where its job's run stands after as many merits. Assumes nothing but what is named.
use Rattle.std.specs.Prelude.{◌≡◌, Bool, ltb}
use Rattle.std.proofs.Math.Path.{refl, ap, sym}
use Rattle.std.proofs.Common.{◌∙◌, true≢false, ltb-true, ltb-false}
use Rattle.std.proofs.Math.Bool.{true, false}
use Prim.Native.Nat.{ℕ, zero, suc, ◌≤◌, ◌<◌}
use Rattle.merit.specs.declared.types.MeritEvaluation.{MeritEvaluation}
use Rattle.jobs.specs.declared.types.Job.{Job}
use Rattle.runs.specs.declared.types.Row.{Row}
use Rattle.runs.specs.Run.{Surfaces, after_merit, after_merits, is_done}
use Rattle.runs.proofs.Ends.{Ends-after}
use Rattle.runs.specs.JobRun.{run}
use Rattle.runs.specs.Rows.{job_of_row, admitted, pending_surfaces, is_finished, bound}
use Rattle.runs.specs.RowAfter.{turned, turned_unless, row_after}
use Rattle.runs.specs.Resumption.{resumption}
use Rattle.runs.proofs.RowLaws.{ReadBack, resumption-admitted, resumption-asks, resumption-done, job-admitted, job-advance, turns-admitted, turns-advance}
use Rattle.runs.proofs.RunEnds.{run-bounded}

module _ (f : Surfaces → MeritEvaluation) where
  -- what holds of a row as admitted and is kept by turns holds of every row reached
  pub reached : (P : Row → Type 0) (job : Job) → P (admitted job) → ((r : Row) → is_finished r ≡ false → P r → P (turned f r)) → (k : ℕ) → P (row_after f k job)
  unfolding row_after turned_unless
  reached P job h next zero = h
  reached P job h next (suc k) = go (is_finished (row_after f k job)) refl (reached P job h next k)
    where
      go : (b : Bool) → is_finished (row_after f k job) ≡ b → P (row_after f k job) → P (turned_unless f b (row_after f k job))
      go true e p = p
      go false e p = next (row_after f k job) e p

  stands-turned : (b : Bool) (r : Row) → is_finished r ≡ b → resumption (turned_unless f b r) ≡ after_merit f (resumption r)
  unfolding turned_unless after_merit
  stands-turned true r h = resumption-done r h ∙ sym (ap (after_merit f) (resumption-done r h))
  stands-turned false r h = sym (ap (after_merit f) (resumption-asks r h))

  -- "a place stands there when its row holds the same"
  pub row-stands : (job : Job) → ReadBack job → (k : ℕ) → resumption (row_after f k job) ≡ after_merits f k (run job)
  unfolding row_after after_merits
  row-stands job back zero = resumption-admitted job back
  row-stands job back (suc k) = stands-turned (is_finished (row_after f k job)) (row_after f k job) refl ∙ ap (after_merit f) (row-stands job back k)

  finished-is : (b : Bool) (r : Row) → is_finished r ≡ b → is_done (resumption r) ≡ b
  unfolding is_done
  finished-is true r h = ap is_done (resumption-done r h)
  finished-is false r h = ap is_done (resumption-asks r h)

  -- finished exactly when no merit comes next
  pub finished-done : (job : Job) → ReadBack job → (k : ℕ) → is_finished (row_after f k job) ≡ is_done (after_merits f k (run job))
  finished-done job back k = sym (finished-is (is_finished (row_after f k job)) (row_after f k job) refl) ∙ ap is_done (row-stands job back k)

  -- finished at the bound
  pub finished-at-bound : (job : Job) → ReadBack job → (k : ℕ) → bound job ≤ k → is_finished (row_after f k job) ≡ true
  unfolding is_done
  finished-at-bound job back k h = finished-done job back k ∙ ap is_done (Ends-after f (λ s. tt) (run-bounded job) k h).2

  pub unfinished-below : (job : Job) → ReadBack job → (k : ℕ) → is_finished (row_after f k job) ≡ false → k < bound job
  unfinished-below job back k h = go (ltb k (bound job)) refl
    where
      go : (b : Bool) → ltb k (bound job) ≡ b → k < bound job
      go true e = ltb-true k (bound job) e
      go false e = absurd (true≢false (sym (finished-at-bound job back k (ltb-false k (bound job) e)) ∙ h))

  -- while it is unfinished, the row's turns are the merits worked out
  pub turns-after : (job : Job) (k : ℕ) → is_finished (row_after f k job) ≡ false → (row_after f k job).turns ≡ k
  unfolding row_after turned_unless
  turns-after job zero h = turns-admitted job
  turns-after job (suc k) h = go (is_finished (row_after f k job)) refl h (λ e. turns-after job k e)
    where
      go : (b : Bool) → is_finished (row_after f k job) ≡ b → is_finished (turned_unless f b (row_after f k job)) ≡ false
          → (is_finished (row_after f k job) ≡ false → (row_after f k job).turns ≡ k) → (turned_unless f b (row_after f k job)).turns ≡ suc k
      go true e u ih = absurd (true≢false (sym e ∙ u))
      go false e u ih = turns-advance (row_after f k job) (f (pending_surfaces (row_after f k job))) ∙ ap suc (ih e)

  pub job-after : (job : Job) → ReadBack job → (k : ℕ) → job_of_row (row_after f k job) ≡ job
  job-after job back k = reached (λ (r : Row). job_of_row r ≡ job) job (job-admitted job back) (λ r u h. job-advance r (f (pending_surfaces r)) ∙ h) k
