-- `helddamage::checks::surfaces_taken` meets its contract. Assumes nothing.
use Rattle.std.proofs.Common.{ℕ, refl, sym, ap, ◌∙◌, arith, rules, tests}
use Rattle.std.proofs.lemmas.Iterator.{YieldsList-from_range}
use Rattle.std.proofs.lemmas.Iterator.Search.{all_from_yields_List}
use Rattle.lists.specs.All.{all_same, all-counted}
use Rattle.optics.specs.Check.{surface_taken}
use Rattle.optics.specs.Types.{flat_surface}
use Rattle.held.specs.Standing.{standing-at}
use Rattle.helddamage.proofs.checks.surfaces_taken.Goals as goal

pub returns : goal.returns
returns c =
    let flat = c.args.flat.now in
    let n = c.args.count in
    all_from_yields_List (λ (i : ℕ). surface_taken (flat_surface flat i)) _ _ _ c.all.ensures.ran
    (YieldsList-from_range 0 n n refl (omega arith)) (λ x b q k. search (rules, tests))
    ∙ sym (all-counted _ n)
    ∙ all_same _ _ n (λ i h. ap surface_taken (sym (standing-at flat i (omega arith))))
