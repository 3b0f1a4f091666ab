-- `normal::elimination::pivot_row` meets its contract: the row kept is the pivot's among those passed, with its magnitude. Assumes nothing.
use mathlib.Core.Path.{◌≡◌, sym, ap, ◌∙◌}
use Prim.Native.Nat.{ℕ}
use native.Mathlib.Omega.{arith}
use lib.ListN.{get_or}
use lib.Ieee.{nan}
use Rattle.floats.specs.Basic.{magnitude}
use Rattle.normal.specs.Scratch.{system_in}
use Rattle.normal.proofs.Turns.{pivot-first, pivot-lower, pivot-upper}
use Rattle.normal.proofs.elimination.pivot_row.Goals as goal
use Rattle.normal.proofs.elimination.pivot_row.Goals.{then-size-most, else-size-most}

pub loop-r-init : goal.loop-r-init
loop-r-init c =
    let x = c.args in (
      omega arith,
      omega arith,
      pivot-first (system_in x.scratch.now) x.c,
      c.abs-most.ensures
          ∙ ap (λ (n : ℕ). magnitude (get_or x.scratch.now n nan)) c.system_place.ensures,
    )

pub loop-r-preserved : goal.loop-r-preserved
loop-r-preserved c =
    let l = c in
    let x = l.args in
    let m = system_in x.scratch.now in
    let size : c.abs-size.result ≡ magnitude (m l.loop-r.r x.c) =
    c.abs-size.ensures ∙ ap (λ (n : ℕ). magnitude (get_or x.scratch.now n nan)) c.system_place-in-loop-r.ensures in
    elim c.if-size-most.branch [
      | then-size-most w ↦ (
        omega arith,
        omega arith,
        w.best-is
            ∙ pivot-lower m x.c l.loop-r.r l.loop-r.best l.loop-r.most _ (omega arith) l.loop-r.invariant.2 l.loop-r.invariant.3 size w.if-size-most.true,
        w.most-is ∙ size
            ∙ ap (λ (n : ℕ). magnitude (m n x.c)) (sym w.best-is),
      )
      | else-size-most w ↦ (
        omega arith,
        omega arith,
        w.best-is
            ∙ pivot-upper m x.c l.loop-r.r l.loop-r.best l.loop-r.most _ (omega arith) l.loop-r.invariant.2 l.loop-r.invariant.3 size w.if-size-most.false,
        w.most-is
            ∙ l.loop-r.invariant.3 ∙ ap (λ (n : ℕ). magnitude (m n x.c)) (sym w.best-is),
      )
    ]

pub returns : goal.returns
returns c =
    let e : c.loop-r.r ≡ c.args.p.count = omega arith in
    rw e at c.loop-r.invariant.2
