-- `variables::taken::followers_taken` meets its contract. Assumes nothing.
use Rattle.std.proofs.Common.{Bool, sym, ◌∙◌, ◌≤◌, length, rules, tests}
use Rattle.std.proofs.lemmas.Iterator.{YieldsList-from_slice, YieldsList-from_take}
use Rattle.std.proofs.lemmas.Iterator.Search.{all_from_yields_List}
use Rattle.lists.specs.All.{all-listed}
use Rattle.variables.specs.Active.{no_variable}
use Rattle.variables.specs.Taken.{follower_taken, followers_taken}
use Rattle.variables.specs.declared.types.VariableDef.{VariableDef}
use Rattle.variables.proofs.taken.followers_taken.Goals as goal

pub returns : goal.returns
unfolding followers_taken
returns c =
    let a = c.args in
    let taken : VariableDef → Bool = λ d. follower_taken a.surface_count d.var_type d.follower in
    let long : a.v.variable_count ≤ length a.v.variables = search rules in
    all_from_yields_List taken _ _ _ c.all.ensures.ran
    (YieldsList-from_take a.v.variable_count (YieldsList-from_slice a.v.variables cc) c.take.ensures.count) (λ x b q k. search (rules, tests))
    ∙ sym (all-listed taken a.v.variables no_variable a.v.variable_count long)
