-- `helddamage::checks::variables_taken` meets its contract. Assumes nothing.
use Rattle.std.proofs.Common.{◌≡◌, refl, ℕ, ◌&&◌, Bool, sym, ap, ◌∙◌, arith, rules, tests}
use Rattle.std.proofs.lemmas.Iterator.{YieldsList-from_range}
use Rattle.std.proofs.lemmas.Iterator.Search.{all_from_yields_List}
use Rattle.lists.specs.All.{all_below, all_same, all-counted}
use Rattle.variables.specs.Active.{variable_at}
use Rattle.variables.specs.Taken.{variable_taken, follower_taken, variables_taken, followers_taken}
use Rattle.jobs.specs.Entries.{variable_known}
use Rattle.jobs.specs.Records.{variable_record_at}
use Rattle.held.specs.EntryLaws.{variable-record}
use Rattle.held.specs.JobFrom.{surface_count_from, variable_count_from, job_record_from, variable_record_from, variables_from}
use Rattle.helddamage.specs.Verdicts.{all_both}
use Rattle.helddamage.proofs.checks.variables_taken.Goals as goal

pub returns : goal.returns
unfolding variables_taken followers_taken
returns c =
    let job = c.args.job in
    let n = c.variable_count.result in
    let many : n ≡ variable_count_from job.counts.now = c.variable_count.ensures in
    let at = variable_at (variables_from job.counts.now job.numbers.now) in
    let placed = λ (s i : ℕ). variable_taken s (at i) in
    let followed = λ (s i : ℕ). follower_taken s (at i).var_type (at i).follower in
    let known = λ (i : ℕ). variable_known (variable_record_from job.counts.now job.numbers.now i) in
    let kept = λ (i : ℕ). variable_known (variable_record_at (job_record_from job.counts.now job.numbers.now) i) in
    let s = surface_count_from job.counts.now in
    all_from_yields_List (λ (i : ℕ). placed c.surface_count-surfaces.result i && followed c.surface_count-surfaces.result i && known i) _ _ _
    c.all.ensures.ran
    (YieldsList-from_range 0 n n refl (omega arith)) (λ x b q k. search (rules, tests))
    ∙ sym (all-counted _ n)
    ∙ all_same _ (λ i. placed s i && followed s i && kept i) n (λ i h t. placed (c.surface_count-surfaces.ensures t) i
    && followed (c.surface_count-surfaces.ensures t) i && sym (ap variable_known (variable-record job.counts.now job.numbers.now i (omega arith))) t)
    ∙ all_both (λ i. placed s i && followed s i) kept n
    ∙ ap (λ (b : Bool). b && all_below kept n) (all_both (placed s) (followed s) n)
    ∙ (λ t. all_below (placed s) (many t) && all_below (followed s) (many t) && all_below kept (many t))
