-- `normal::elimination::reduce_below` meets its contract: a turn reduces one row. Assumes nothing.
use mathlib.Core.Path.{◌≡◌, sym, ap, ◌∙◌}
use Prim.Native.Nat.{ℕ, suc, ◌+◌, ◌-◌, ◌<◌}
use native.Mathlib.Omega.{arith}
use mathlib.Core.List.{List}
use lib.Ieee.{Float}
use Rattle.normal.specs.Loops.{rows_reduced, row_reduced}
use Rattle.normal.proofs.Turns.{none_passed, one_more, passed}
use Rattle.normal.proofs.elimination.reduce_below.Goals as goal

none : (p c : ℕ) (pivot : Float) (l : List Float) → l ≡ rows_reduced p c pivot (c + 1 - suc c) l
unfolding rows_reduced
none p c pivot l = ap (λ (n : ℕ). rows_reduced p c pivot n l) (none_passed c)

more : (p c r : ℕ) (pivot : Float) (l : List Float) → c < r → row_reduced p c pivot r (rows_reduced p c pivot (r - suc c) l)
    ≡ rows_reduced p c pivot (r + 1 - suc c) l
unfolding rows_reduced
more p c r pivot l h =
    ap (λ (x : ℕ). row_reduced p c pivot x (rows_reduced p c pivot (r - suc c) l)) (sym (passed c r h))
    ∙ ap (λ (x : ℕ). rows_reduced p c pivot x l) (sym (one_more c r h))

pub loop-r-init : goal.loop-r-init
loop-r-init c =
    let x = c.args in
    none x.p.count x.c x.pivot x.scratch.now

pub loop-r-preserved : goal.loop-r-preserved
loop-r-preserved c =
    let l = c in
    let x = l.args in
    c.reduce_row.ensures
    ∙ ap (row_reduced x.p.count x.c x.pivot l.loop-r.r) l.loop-r.invariant
    ∙ more x.p.count x.c l.loop-r.r x.pivot x.scratch.now (omega arith)

pub returns : goal.returns
returns c =
    let e : c.loop-r.r ≡ c.args.p.count = omega arith in
    rw e at c.loop-r.invariant
