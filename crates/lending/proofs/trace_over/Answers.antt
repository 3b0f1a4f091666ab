-- `lending::trace_over` meets its contract: the records behind those that were lent stay. Assumes nothing.
use Rattle.std.proofs.Common.{◌≡◌, ℕ, min, List, ◌++◌, take, drop, ap, ◌∙◌, rules, tests}
use Rattle.merit.specs.Calls.{traced_rays}
use Rattle.optics.specs.declared.types.ParaxialRay.{ParaxialRay}
use Rattle.lending.proofs.trace_over.Goals as goal

pub returns-clause-rays : goal.returns-clause-rays
returns-clause-rays c =
    let a = c.args in
    let n = c.if-length-lt16.n in
    let many : n ≡ min a.length 16 = search (rules, tests) in
    ap (λ (r : List ParaxialRay). r ++ drop n a.old) c.trace-answer.ensures.1
    ∙ ap (λ (m : ℕ). traced_rays a.prescription a.slot (take m a.old) ++ drop m a.old) many
