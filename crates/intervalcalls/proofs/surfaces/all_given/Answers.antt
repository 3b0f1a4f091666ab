-- `intervalcalls::surfaces::all_given` meets its contract. Assumes nothing.
use Rattle.std.proofs.Common.{sym, ◌∙◌, ◌≤◌, length, rules, tests}
use Rattle.std.proofs.lemmas.Iterator.{YieldsList-from_slice, YieldsList-from_take}
use Rattle.std.proofs.lemmas.Iterator.Search.{all_from_yields_List}
use Rattle.lists.specs.All.{all-listed}
use Rattle.intervals.specs.Interval.{no_interval}
use Rattle.intervals.specs.Calls.{given_taken}
use Rattle.intervalcalls.proofs.surfaces.all_given.Goals as goal

pub returns : goal.returns
returns c =
    let l = c.args.limits.thicknesses in
    let long : c.args.count ≤ length l = search rules in
    all_from_yields_List given_taken _ _ _ c.all.ensures.ran
    (YieldsList-from_take c.args.count (YieldsList-from_slice l cc) c.take.ensures.count) (λ x b q k. search (rules, tests))
    ∙ sym (all-listed given_taken l no_interval c.args.count long)
