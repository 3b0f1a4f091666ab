-- `held::types::LentJob::active_at` meets its contract: the loop's invariant: p of the variables passed are enabled, and p is at most q. Assumes nothing.
use Prim.Native.Nat.{ℕ, ◌+◌, ◌≤◌}
use mathlib.Core.Path.{◌≡◌, refl, sym, ap, ◌∙◌}
use native.Mathlib.Omega.{arith}
use Rattle.variables.specs.Active.{enabled_of}
use Rattle.variables.proofs.ActiveLaws.{count-more, count_past}
use Rattle.variables.specs.declared.types.VariableDef.{VariableDef}
use Rattle.held.specs.JobFrom.{variable_count_from, variables_from}
use mathlib.Core.Logic.{inl, inr}
use native.Mathlib.Nat.{eq-or-lt_of_le}
use lib.ListN.{get_or-eq_default}
use Rattle.floats.specs.Constants.{no_number}
use Rattle.variables.specs.Active.{no_variable, active, num_active}
use Rattle.variables.proofs.ActiveLaws.{active-here}
use Rattle.held.proofs.types.LentJob.active_at.Goals as goal
use Rattle.held.proofs.types.LentJob.active_at.Goals.{then-d+else-p-q, else-d}

higher : (p q p' : ℕ) → p ≤ q → (p ≡ q → ⊥) → p' ≡ p + 1 → p' ≤ q
higher p q p' h n e = elim (eq-or-lt_of_le h) [
  | inl s ↦ absurd (n s)
  | inr l ↦ omega arith
]

pub loop-i-init : goal.loop-i-init
unfolding enabled_of
loop-i-init c = (c.variable_count-count.ensures, refl, omega arith)

pub returns-then-p-q : goal.returns-then-p-q
returns-then-p-q c =
    let x = c.args in
    let v = variables_from x.self.counts.now x.self.numbers.now in
    let e = ap (λ (d : VariableDef). d.enabled) c.variable_at-d.ensures in
    c.variable_at-d.ensures ∙ sym (active-here v c.loop-i.i x.q (omega (
      arith,
      c.loop-i.invariant.0,
    )) (sym e ∙ c.if-d.true)
    (sym c.if-p-q.true ∙ c.loop-i.invariant.1))

pub loop-i-preserved : goal.loop-i-preserved
loop-i-preserved c =
    let x = c.args in
    let v = variables_from x.self.counts.now x.self.numbers.now in
    let e = ap (λ (d : VariableDef). d.enabled) c.variable_at-d.ensures in
    elim c.if-d.branch [
      | then-d+else-p-q w ↦ (
        c.loop-i.invariant.0,
        omega (arith, w.p-is, c.loop-i.invariant.1, count-more v c.loop-i.i (sym e ∙ w.if-d.true)),
        higher _ _ _ c.loop-i.invariant.2 w.if-p-q.false w.p-is,
      )
      | else-d w ↦ (
        c.loop-i.invariant.0,
        omega (arith, w.p-is, c.loop-i.invariant.1, count_past v c.loop-i.i (sym e ∙ w.if-d.false)),
        omega (arith, w.p-is, c.loop-i.invariant.2),
      )
    ]

pub returns : goal.returns
returns c =
    let x = c.args in
    let v = variables_from x.self.counts.now x.self.numbers.now in
    let e : c.loop-i.i ≡ variable_count_from x.self.counts.now = omega (arith, c.loop-i.invariant.0) in
    let p : c.loop-i.p ≡ num_active v = rw e at c.loop-i.invariant.1 in
    simp no_number (sym (get_or-eq_default (active v) no_variable {n = x.q} (omega (arith, p, c.loop-i.invariant.2))))
