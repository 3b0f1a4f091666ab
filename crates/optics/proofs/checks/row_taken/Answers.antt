-- `optics::checks::row_taken` meets its contract. Assumes nothing.
use Rattle.std.proofs.Common.{◌≡◌, ◌≤◌, ℕ, ◌+◌, ◌-◌, ◌*◌, length, sym, ap, ◌∙◌, arith, rules, tests, take, drop, length-drop}
use Rattle.std.proofs.lemmas.List.{get_or-drop}
use Rattle.std.proofs.lemmas.Iterator.{YieldsList-from_slice}
use Rattle.std.proofs.lemmas.Iterator.Search.{all_from_yields_List}
use Rattle.std.specs.Float.{nan}
use Rattle.std.specs.List.{list_all}
use Rattle.lists.specs.All.{all-listed, all_same}
use Rattle.optics.specs.Check.{index_taken}
use Rattle.optics.proofs.checks.row_taken.Goals as goal

pub returns : goal.returns
returns c =
    let a = c.args in
    let row = drop (a.i * 4) a.indices.now in
    let long : a.slots ≤ length row = simp length-drop (omega arith) in
    let many : a.i * 4 + a.slots - a.i * 4 ≡ a.slots = omega arith in
    all_from_yields_List index_taken _ _ _ c.all.ensures.ran
    (YieldsList-from_slice (take (a.i * 4 + a.slots - a.i * 4) row) cc) (λ x b q k. search (rules, tests))
    ∙ ap (λ (n : ℕ). list_all index_taken (take n row)) many
    ∙ sym (all-listed index_taken row nan a.slots long)
    ∙ all_same _ _ a.slots (λ w h. ap index_taken (get_or-drop (a.i * 4) a.indices.now w nan))
