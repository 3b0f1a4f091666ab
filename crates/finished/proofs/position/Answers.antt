-- `finished::position` meets its contract: what it has passed, and what is left to look at. Assumes nothing.
use mathlib.Core.Path.{◌≡◌, sym, ap, ◌∙◌}
use Prim.Native.Nat.{ℕ, suc, ◌-◌, ◌≤◌, ◌<◌}
use native.Mathlib.Numerals.{add-one}
use native.Mathlib.Omega.{arith}
use Rattle.finished.specs.Inserted.{turns_in, position_from, position_here, position-next}
use Rattle.finished.proofs.position.Goals as goal

all : (n : ℕ) → n ≡ n - 0
all n = omega arith

left : (n at : ℕ) → at < n → n - at ≡ suc (n - suc at)
left n at h = omega arith

none : (n at : ℕ) → n ≤ at → n - at ≡ 0
none n at h = omega arith

pub loop-at-init : goal.loop-at-init
loop-at-init c = ap (position_from (turns_in c.args.turns) c.args.place c.args.places 0) (all c.args.count)

pub returns-then-turns_at : goal.returns-then-turns_at
returns-then-turns_at c =
    let a = c.args in
    let at = c.loop-at.at in
    sym
    (c.loop-at.invariant
    ∙ ap (position_from (turns_in a.turns) a.place a.places at) (left a.count at (omega arith))
    ∙ position_here (turns_in a.turns) a.place a.places at (a.count - suc at)
    (rw (c.turns_at.ensures, c.turns_at-in-loop-at.ensures) at c.if-turns_at.true))

pub loop-at-preserved : goal.loop-at-preserved
loop-at-preserved c =
    let a = c.args in
    let at = c.loop-at.at in
    c.loop-at.invariant
    ∙ ap (position_from (turns_in a.turns) a.place a.places at) (left a.count at (omega arith))
    ∙ position-next (turns_in a.turns) a.place a.places at (a.count - suc at)
    (rw (c.turns_at.ensures, c.turns_at-in-loop-at.ensures) at c.if-turns_at.false)
    ∙ sym (ap (λ (n : ℕ). position_from (turns_in a.turns) a.place a.places n (a.count - n)) (add-one at))

pub returns : goal.returns
returns c =
    let a = c.args in
    let at = c.loop-at.at in
    let e : a.count ≡ at = omega arith in
    e ∙ sym (c.loop-at.invariant ∙ ap (position_from (turns_in a.turns) a.place a.places at) (none a.count at (omega arith)))
