-- `normal::layout::place` meets its contract: the larger number is the row's. Assumes nothing.
use mathlib.Core.Path.{ap, ◌∙◌}
use Prim.Native.Nat.{ℕ, ◌+◌}
use native.Mathlib.Omega.{arith}
use Rattle.normal.proofs.Triangle.{place-upper, place-lower, place-below}
use Rattle.std.proofs.Common.{rules}
use Rattle.normal.proofs.layout.place.Goals as goal

pub overflow_add-result : goal.overflow_add-result
overflow_add-result c =
    let x = c.args in
    let e = ap (λ (n : ℕ). n + x.i) c.row_start.ensures ∙ place-upper x.i x.j c.if-i-j.true in
    record { fits = omega (arith, e, place-below x.i x.j (search rules) (search rules)) }

pub returns-then-i-j : goal.returns-then-i-j
returns-then-i-j c =
    let x = c.args in
    let e = ap (λ (n : ℕ). n + x.i) c.row_start.ensures ∙ place-upper x.i x.j c.if-i-j.true in
    record { fact_1 = e; fact_2 = rw e (place-below x.i x.j (search rules) (search rules)) }

pub overflow_add-result-2 : goal.overflow_add-result-2
overflow_add-result-2 c =
    let x = c.args in
    let e = ap (λ (n : ℕ). n + x.j) c.row_start-2.ensures ∙ place-lower x.i x.j c.if-i-j.false in
    record { fits = omega (arith, e, place-below x.i x.j (search rules) (search rules)) }

pub returns : goal.returns
returns c =
    let x = c.args in
    let e = ap (λ (n : ℕ). n + x.j) c.row_start-2.ensures ∙ place-lower x.i x.j c.if-i-j.false in
    record { fact_1 = e; fact_2 = rw e (place-below x.i x.j (search rules) (search rules)) }
