-- `optics::checks::indices_taken` meets its contract. Assumes nothing.
use Rattle.std.proofs.Common.{Bool, ℕ, sym, ◌∙◌, refl, arith, rules, tests}
use Rattle.std.proofs.lemmas.Iterator.{YieldsList-from_range}
use Rattle.std.proofs.lemmas.Iterator.Search.{all_from_yields_List}
use Rattle.lists.specs.All.{all-counted}
use Rattle.optics.specs.Check.{row_taken}
use Rattle.optics.proofs.checks.indices_taken.Goals as goal

pub returns : goal.returns
returns c =
    let a = c.args in
    let taken : ℕ → Bool = row_taken a.indices.now a.slots in
    all_from_yields_List taken _ _ _ c.all.ensures.ran (YieldsList-from_range 0 a.count a.count refl (omega arith)) (λ x b q k. search (rules, tests))
    ∙ sym (all-counted taken a.count)
