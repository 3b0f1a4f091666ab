-- `optics::kept::kept_indices` meets its contract. The loop's invariant: of the entries passed those not in use are zero. Assumes nothing.
use mathlib.Core.Path.{sym, ◌∙◌}
use Prim.Native.Nat.{ℕ, ◌<◌}
use lib.Ieee.{nan}
use Rattle.floats.specs.Constants.{zero64}
use Rattle.lists.specs.Kept.{clear-begin, clear-more, clear-past, clear-end}
use Rattle.optics.specs.Kept.{index_used}
use native.Mathlib.Omega.{arith}
use Rattle.std.proofs.Common.{rules}
use Rattle.std.proofs.lemmas.List.{set-get_or}
use Rattle.optics.proofs.kept.kept_indices.Goals as goal
use Rattle.optics.proofs.kept.kept_indices.Goals.{then-not-index_used, else-not-index_used}

pub loop-k-init : goal.loop-k-init
loop-k-init c = clear-begin _ zero64 nan _ 0 (λ k h. absurd (none k h))
  where
    none : (k : ℕ) → k < 0 → ⊥
    none k h = omega arith

pub loop-k-preserved : goal.loop-k-preserved
loop-k-preserved c =
    let x = c.args in
    let used = index_used x.count x.slots in
    elim c.if-not-index_used.branch [
      | then-not-index_used w ↦ (clear-more used zero64 nan x.indices c.loop-k.invariant _ w.index-items-is (search rules)
          (sym c.index_used.ensures ∙ w.if-not-index_used.true))
      | else-not-index_used w ↦ (clear-past used zero64 nan x.indices c.loop-k.invariant _
          (w.index-items-is ∙ set-get_or c.loop-k.index-items c.loop-k.k nan) (sym c.index_used.ensures ∙ w.if-not-index_used.false))
    ]

pub returns : goal.returns
returns c =
    let x = c.args in
    clear-end (index_used x.count x.slots) zero64 nan x.indices c.loop-k.invariant 64 (search rules) c.loop-k-test.false
