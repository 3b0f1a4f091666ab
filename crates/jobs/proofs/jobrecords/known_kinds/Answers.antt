-- `jobs::jobrecords::known_kinds` meets its contract. Assumes nothing.
use mathlib.Core.Path.{sym, ◌∙◌}
use mathlib.Core.Bool.{◌&&◌}
use lib.ListN.{length}
use Rattle.std.proofs.Common.{◌≤◌, rules, tests}
use Rattle.std.proofs.lemmas.Iterator.{YieldsList-from_slice, YieldsList-from_take}
use Rattle.std.proofs.lemmas.Iterator.Search.{all_from_yields_List}
use Rattle.lists.specs.All.{all-listed}
use Rattle.jobs.specs.Entries.{no_variable_record, no_operand_record, variable_known, operand_known}
use Rattle.jobs.specs.Records.{known_operands}
use Rattle.jobs.proofs.jobrecords.known_kinds.Goals as goal

pub returns-then-all : goal.returns-then-all
returns-then-all c =
    let h = c.args.held in
    let long : h.variable_count ≤ length h.variables = search rules in
    let rest : h.operand_count ≤ length h.operands = search rules in
    let known = all_from_yields_List variable_known _ _ _ c.all.ensures.ran
    (YieldsList-from_take h.variable_count (YieldsList-from_slice h.variables cc) c.take.ensures.count) (λ x b q k. search (rules, tests))
    ∙ sym (all-listed variable_known h.variables no_variable_record h.variable_count long) in
    let others = all_from_yields_List operand_known _ _ _ c.all-then-all.ensures.ran
    (YieldsList-from_take h.operand_count (YieldsList-from_slice h.operands cc) c.take-then-all.ensures.count) (λ x b q k. search (rules, tests))
    ∙ sym (all-listed operand_known h.operands no_operand_record h.operand_count rest) in
    others ∙ λ i. (sym c.if-all.true ∙ known) i && known_operands h

pub returns-else-all : goal.returns-else-all
returns-else-all c =
    let h = c.args.held in
    let long : h.variable_count ≤ length h.variables = search rules in
    let known = all_from_yields_List variable_known _ _ _ c.all.ensures.ran
    (YieldsList-from_take h.variable_count (YieldsList-from_slice h.variables cc) c.take.ensures.count) (λ x b q k. search (rules, tests))
    ∙ sym (all-listed variable_known h.variables no_variable_record h.variable_count long) in
    c.if-all.false ∙ λ i. (sym c.if-all.false ∙ known) i && known_operands h
