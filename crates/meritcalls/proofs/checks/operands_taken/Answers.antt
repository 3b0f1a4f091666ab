-- `meritcalls::checks::operands_taken` meets its contract. Assumes nothing.
use Rattle.std.proofs.Common.{sym, ◌∙◌, ◌≤◌, length, rules, tests}
use Rattle.std.proofs.lemmas.Iterator.{YieldsList-from_slice, YieldsList-from_take}
use Rattle.std.proofs.lemmas.Iterator.Search.{all_from_yields_List}
use Rattle.lists.specs.All.{all-listed}
use Rattle.merit.specs.OperandTable.{no_operand}
use Rattle.merit.specs.Check.{operand_taken}
use Rattle.meritcalls.proofs.checks.operands_taken.Goals as goal

pub returns : goal.returns
returns c =
    let f = c.args.function in
    let long : f.operand_count ≤ length f.operands = search rules in
    all_from_yields_List (operand_taken c.args.slots) _ _ _ c.all.ensures.ran
    (YieldsList-from_take f.operand_count (YieldsList-from_slice f.operands cc) c.take.ensures.count) (λ x b q k. search (rules, tests))
    ∙ sym (all-listed (operand_taken c.args.slots) f.operands no_operand f.operand_count long)
