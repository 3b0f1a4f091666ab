-- `helddamage::damage::is_damaged` meets its contract: each arm returns what the tests that led there make of `damaged`. Assumes nothing.
use mathlib.Core.Path.{◌≡◌, refl, sym, ap, ◌∙◌}
use mathlib.Core.Bool.{not}
use Prim.Native.Nat.{ℕ, suc}
use native.Mathlib.Omega.{arith}
use mathlib.Core.Bool.{and-eq-true_iff}
use lib.Dec.{ltb, leb}
use Rattle.std.proofs.lemmas.Bool.Decides.{leb_tells}
use Rattle.variables.proofs.ActiveLaws.{count-le}
use Rattle.jobs.specs.Checks.{job_taken}
use Rattle.jobs.specs.Counts.{counts}
use Rattle.jobs.specs.Records.{method, known_kinds}
use Rattle.runs.specs.Rows.{bound_by}
use Rattle.runs.specs.Rows as Rows
use Rattle.kinds.specs.Limits.{taken-within}
use Rattle.held.specs.JobFrom.{variable_count_from, settings_from, job_record_from, held_job, variables_from}
use Rattle.held.specs.RowFrom.{kind_from, turns_from, held_state}
use Rattle.helddamage.specs.Others.{held_with}
use Rattle.helddamage.specs.Verdicts.{counts-refused, within-any, no_kind, no-job, before-end}
use Rattle.helddamage.proofs.damage.is_damaged.Goals.{then-not-is_kind-via-then-not-is_kind, then-not-is_kind-via-else-not-is_kind+then-not-counts_taken}
use Rattle.helddamage.proofs.damage.is_damaged.Goals as goal

not_below : (a b : ℕ) → leb b a ≡ not (ltb a b)
not_below a b = grind (arith, leb_tells b a, leb_tells (suc a) b)

pub returns-then-not-is_kind : goal.returns-then-not-is_kind
returns-then-not-is_kind c = λ o.
    let a = c.args in
    let r = held_with a.words.now a.job.counts.now a.job.numbers.now a.surfaces.now a.best_surfaces.now o in
    elim c.then-not-is_kind.branch [
      | then-not-is_kind-via-then-not-is_kind w ↦ sym (no_kind r (sym c.is_kind.ensures ∙ w.if-not-is_kind.true))
      | then-not-is_kind-via-else-not-is_kind+then-not-counts_taken w ↦
          let counted = sym (w.counts_taken.ensures r.job.numbers (kind_from r.head.words)) ∙ w.if-not-counts_taken.true in
          sym (no-job r (sym c.is_kind.ensures ∙ w.if-not-is_kind.false)
          (counts-refused r.job.counts r.job.numbers (kind_from r.head.words) counted))
    ]

pub num_active-p-requires : goal.num_active-p-requires
num_active-p-requires c =
    let j = c.args.job in
    let n = counts (held_job j.counts.now j.numbers.now 0) (sym (c.counts_taken.ensures j.numbers.now 0) ∙ c.if-not-counts_taken.false) in
    n.variables

pub job_taken-requires : goal.job_taken-requires
job_taken-requires c =
    let a = c.args in (
      sym (c.counts_taken.ensures a.job.numbers.now (kind_from a.words.now)) ∙ c.if-not-counts_taken.false,
      c.num_active-p.ensures,
    )

pub state_sound-requires : goal.state_sound-requires
state_sound-requires c =
    let j = c.args.job in
    let n = counts (held_job j.counts.now j.numbers.now 0) (sym (c.counts_taken.ensures j.numbers.now 0) ∙ c.if-not-counts_taken.false) in
    (n.surfaces, c.requires.0, c.requires.1)

pub bound-requires : goal.bound-requires
bound-requires c =
    let j = c.args.job in
    let k = kind_from c.args.words.now in
    let n = counts (held_job j.counts.now j.numbers.now 0) (sym (c.counts_taken.ensures j.numbers.now 0) ∙ c.if-not-counts_taken.false) in
    let job = sym c.job_taken.ensures ∙ c.if-not-job_taken.false in
    let w = taken-within (held_job j.counts.now j.numbers.now k)
    ((and-eq-true_iff (job_taken (held_job j.counts.now j.numbers.now k)) (known_kinds (job_record_from j.counts.now j.numbers.now))).0 job).0 in (
      λ numbers. within-any j.counts.now j.numbers.now numbers k w.counts,
      omega (
        arith,
        c.num_active-p.ensures,
        n.variables,
        count-le (variables_from j.counts.now j.numbers.now) (variable_count_from j.counts.now),
      ),
    )

pub returns-then-not-is_over : goal.returns-then-not-is_over
unfolding Rows.bound
returns-then-not-is_over c = λ o.
    let a = c.args in
    let r = held_with a.words.now a.job.counts.now a.job.numbers.now a.surfaces.now a.best_surfaces.now o in
    let settings = settings_from r.job.counts r.job.numbers in
    let kind = sym c.is_kind.ensures ∙ c.if-not-is_kind.false in
    let job = sym c.job_taken.ensures ∙ c.if-not-job_taken.false in
    let state = sym (c.state_sound.ensures o c.num_active-p.ensures) ∙ c.if-not-state_sound.false in
    let over = sym (c.is_over.ensures settings (held_state r) refl) ∙ c.if-not-is_over.true in
    let limit = c.bound.ensures r.job.numbers ∙ ap (bound_by (method (kind_from r.head.words) settings)) c.num_active-p.ensures in
    not_below (turns_from r.head.words) c.bound.result ∙ ap (λ (m : ℕ). not (ltb (turns_from r.head.words) m)) limit
    ∙ sym (before-end r kind job state over)
