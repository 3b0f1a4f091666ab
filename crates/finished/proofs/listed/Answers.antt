-- `finished::listed` meets its contract: the places found so far, in their order. Assumes nothing.
use mathlib.Core.Path.{◌≡◌, sym, ap, ◌∙◌, subst}
use mathlib.Core.List.{List}
use Prim.Native.Nat.{ℕ, ◌≤◌, ◌<◌}
use native.Mathlib.Omega.{arith}
use Rattle.finished.specs.Inserted.{turns_in, position_from, opened_at}
use Rattle.finished.specs.Gathered.{Gathered, gathered_none, gathered-less, gathered-more, gathered-all}
use Rattle.finished.proofs.listed.Goals as goal
use Rattle.finished.proofs.listed.Goals.{then-is_listed, else-is_listed}

four : (k : ℕ) → k ≤ 4 → 4 ≤ k → k ≡ 4
four k h l = omega arith

pub loop-place-init : goal.loop-place-init
loop-place-init c = gathered_none _

pub position-at-requires : goal.position-at-requires
position-at-requires c = omega (arith, c.loop-place.invariant.few)

pub overflow_add-count : goal.overflow_add-count
overflow_add-count c =
    omega (arith, c.loop-place.invariant.few)

pub loop-place-preserved : goal.loop-place-preserved
loop-place-preserved c =
    let g = c.loop-place.invariant in
    let below : c.loop-place.place < 4 = omega arith in
    let asked = c.is_listed.ensures in
    let turns = c.turns_of-turns.ensures in
    let now = c.loop-place in
    elim c.if-is_listed.branch [
      | then-is_listed w ↦
          gathered-more _ below g (sym asked ∙ w.if-is_listed.true)
          (w.places-is ∙ w.opened-next.ensures ∙ ap (λ (n : ℕ). opened_at n now.place now.places)
          (w.position-at.ensures ∙ ap (λ (l : List ℕ). position_from (turns_in l) now.place now.places 0 now.count) turns))
          w.count-is
      | else-is_listed w ↦ gathered-less _ below g (sym asked ∙ w.if-is_listed.false) w.places-is w.count-is
    ]

pub returns : goal.returns
returns c =
    gathered-all _ _ _
    (subst (λ (k : ℕ). Gathered c.args.bench.now k c.loop-place.places c.loop-place.count)
    (four _ (omega arith) (omega arith)) c.loop-place.invariant)
