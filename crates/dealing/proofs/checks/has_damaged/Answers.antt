-- `dealing::checks::has_damaged` meets its contract. Assumes nothing.
use Rattle.std.proofs.Common.{◌≡◌, refl, Bool, true, false, not, ◌&&◌, ◌||◌, ℕ, List, [], ◌∷◌, sym, ap, ◌∙◌, rules, tests}
use Rattle.std.specs.List.{range_with_len, list_all, list_any}
use Rattle.std.proofs.lemmas.Iterator.{YieldsList-from_range}
use Rattle.std.proofs.lemmas.Iterator.Search.{any_from_yields_List}
use Rattle.bench.specs.Benches.{row_at}
use Rattle.bench.specs.Calls.{taken_damaged}
use Rattle.lists.specs.All.{all-counted}
use Rattle.dealing.proofs.checks.has_damaged.Goals as goal

any-not-all : (t : ℕ → Bool) (l : List ℕ) → list_any t l ≡ not (list_all (λ x. not (t x)) l)
any-not-all t [] = refl
any-not-all t (x ∷ l) = (λ i. t x || any-not-all t l i) ∙ either (t x) (list_all (λ x. not (t x)) l)
  where
    either : (a b : Bool) → a || not b ≡ not (not a && b)
    either true b = refl
    either false b = refl

pub returns : goal.returns
returns c =
    let damaged = λ (place : ℕ). taken_damaged (row_at c.args.bench.now place) in
    any_from_yields_List damaged _ _ _ c.any.ensures.ran (YieldsList-from_range 0 4 4 refl refl) (λ x b q k. search (rules, tests))
    ∙ any-not-all damaged (range_with_len 0 4)
    ∙ ap not (sym (all-counted (λ place. not (damaged place)) 4))
