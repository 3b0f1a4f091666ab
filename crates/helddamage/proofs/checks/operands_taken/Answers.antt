-- `helddamage::checks::operands_taken` meets its contract. Assumes nothing.
use Rattle.std.proofs.Common.{◌≡◌, refl, ℕ, ◌&&◌, sym, ap, ◌∙◌, arith, rules, tests}
use Rattle.std.proofs.lemmas.Iterator.{YieldsList-from_range}
use Rattle.std.proofs.lemmas.Iterator.Search.{all_from_yields_List}
use Rattle.lists.specs.All.{all_below, all_same, all-counted}
use Rattle.merit.specs.OperandTable.{operand_at}
use Rattle.merit.specs.Check.{operand_taken}
use Rattle.jobs.specs.Entries.{operand_known}
use Rattle.jobs.specs.Records.{operand_record_at}
use Rattle.held.specs.EntryLaws.{operand-record}
use Rattle.held.specs.JobFrom.{operand_count_from, slot_count_from, job_record_from, operand_record_from, operands_from}
use Rattle.helddamage.specs.Verdicts.{all_both}
use Rattle.helddamage.proofs.checks.operands_taken.Goals as goal

pub returns : goal.returns
returns c =
    let job = c.args.job in
    let n = c.operand_count.result in
    let many : n ≡ operand_count_from job.counts.now = c.operand_count.ensures in
    let taken = λ (s n : ℕ). operand_taken s (operand_at (operands_from job.counts.now job.numbers.now) n) in
    let known = λ (n : ℕ). operand_known (operand_record_from job.counts.now job.numbers.now n) in
    let kept = λ (n : ℕ). operand_known (operand_record_at (job_record_from job.counts.now job.numbers.now) n) in
    all_from_yields_List (λ (n : ℕ). taken c.slot_count-slots.result n && known n) _ _ _ c.all.ensures.ran
    (YieldsList-from_range 0 n n refl (omega arith)) (λ x b q k. search (rules, tests))
    ∙ sym (all-counted _ n)
    ∙ all_same _ (λ n. taken (slot_count_from job.counts.now) n && kept n) n (λ n h i. taken (c.slot_count-slots.ensures i) n
    && sym (ap operand_known (operand-record job.counts.now job.numbers.now n (omega arith))) i)
    ∙ all_both (taken (slot_count_from job.counts.now)) kept n
    ∙ (λ i. all_below (taken (slot_count_from job.counts.now)) (many i) && all_below kept (many i))
