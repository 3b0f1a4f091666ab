-- `optics::checks::surfaces_taken` meets its contract. Assumes nothing.
use Rattle.std.proofs.Common.{sym, ◌∙◌, rules, tests}
use Rattle.std.proofs.lemmas.Iterator.{YieldsList-from_slice, YieldsList-from_take}
use Rattle.std.proofs.lemmas.Iterator.Search.{all_from_yields_List}
use Rattle.lists.specs.All.{all-listed}
use Rattle.optics.specs.Types.{no_surface}
use Rattle.optics.specs.Check.{surface_taken}
use Rattle.optics.proofs.checks.surfaces_taken.Goals as goal

pub returns : goal.returns
returns c =
    let a = c.args in
    all_from_yields_List surface_taken _ _ _ c.all.ensures.ran
    (YieldsList-from_take a.count (YieldsList-from_slice a.surfaces.now cc) c.take.ensures.count) (λ x b q k. search (rules, tests))
    ∙ sym (all-listed surface_taken a.surfaces.now no_surface a.count c.requires)
