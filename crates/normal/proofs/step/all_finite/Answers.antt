-- `normal::step::all_finite` meets its contract: of the step's part, read from its first entry on. Assumes nothing.
use native.Mathlib.Omega.{arith}
use mathlib.Core.Path.{◌≡◌, sym, ap, ◌∙◌}
use Prim.Native.Nat.{ℕ, ◌+◌, ◌-◌}
use lib.ListN.{length, get_or, drop, take}
use lib.Ieee.{nan}
use Rattle.std.proofs.Common.{◌≤◌, rules, tests}
use Rattle.std.proofs.lemmas.Iterator.{YieldsList-from_slice}
use Rattle.std.proofs.lemmas.Iterator.Search.{all_from_yields_List}
use Rattle.std.specs.List.{list_all}
use Rattle.std.proofs.lemmas.List.{get_or-drop, length-drop}
use Rattle.lists.specs.All.{all_same, all-listed}
use Rattle.floats.specs.Basic.{finite_of}
use Rattle.normal.specs.Layout.{step_at}
use Rattle.normal.proofs.step.all_finite.Goals as goal

pub returns : goal.returns
returns c =
    let x = c.args in
    let l = x.scratch.now in
    let room : x.p.count ≤ length (drop step_at l) = rw length-drop (omega arith) in
    let count : step_at + x.p.count - step_at ≡ x.p.count = omega arith in
    all_from_yields_List finite_of _ _ _ c.all.ensures.ran (YieldsList-from_slice _ c.iter.ensures.rest) (λ x b q k. search (rules, tests))
    ∙ ap (λ (n : ℕ). list_all finite_of (take n (drop step_at l))) count
    ∙ sym (all-listed finite_of (drop step_at l) nan x.p.count room)
    ∙ all_same (λ (k : ℕ). finite_of (get_or (drop step_at l) k nan)) (λ (k : ℕ). finite_of (get_or l (step_at + k) nan)) x.p.count
    (λ k b. ap finite_of (get_or-drop step_at l k nan))
