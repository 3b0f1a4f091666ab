-- `variables::sets::num_active` meets its contract. Assumes nothing.
use Rattle.std.proofs.Common.{List, ◌≡◌, ◌≤◌, ℕ, zero, suc, ◌++◌, length, take, refl, sym, ap, ◌∙◌, arith, add-one, rules, tests}
use Rattle.std.proofs.lemmas.Iterator.{YieldsList-from_slice, YieldsList-from_take}
use Rattle.std.proofs.lemmas.Iterator.Consumers.{count_from_yields_List, YieldsList-at, YieldsList-from_filter}
use Rattle.std.proofs.lemmas.List.Elements.{filter_more}
use Rattle.std.specs.List.{filter}
use Rattle.variables.specs.Active.{no_variable, variable_at, if_enabled, enabled_of}
use Rattle.variables.specs.declared.types.VariableDef.{VariableDef}
use Rattle.variables.specs.declared.types.VariableSet.{VariableSet}
use Rattle.variables.proofs.sets.num_active.Goals as goal

filtered : (v : VariableSet) (n : ℕ) → n ≤ length v.variables → filter (λ (d : VariableDef). d.enabled) (take n v.variables) ≡ enabled_of v n
unfolding enabled_of
filtered v zero h = refl
filtered v (suc n) h =
    ap (λ (k : ℕ). filter (λ (d : VariableDef). d.enabled) (take k v.variables)) (sym (add-one n))
    ∙ filter_more (λ (d : VariableDef). d.enabled) v.variables n no_variable h
    ∙ ap (λ (l : List VariableDef). l ++ if_enabled (variable_at v n)) (filtered v n (omega arith))

pub returns : goal.returns
returns c =
    let v = c.args.v in
    let long : v.variable_count ≤ length v.variables = search rules in
    count_from_yields_List c.filter.result _ c.count.ensures.ran
    (YieldsList-from_filter _ (λ (d : VariableDef). d.enabled)
    (YieldsList-at c.filter.ensures.source (YieldsList-from_take v.variable_count (YieldsList-from_slice v.variables cc) c.take.ensures.count))
    c.filter.ensures.closure (λ x b q k. search (rules, tests)))
    ∙ ap length (filtered v v.variable_count long)
