-- `rows::numbers::fetch_refusal` meets its contract: one after the other. Assumes nothing.
use native.Mathlib.Omega.{arith}
use Rattle.std.proofs.lemmas.Result.{err_from_is_err_and}
use Rattle.runs.specs.Damage.{damaged}
use Rattle.bench.specs.Calls.{is_vacant}
use Rattle.held.specs.RowFrom.{row_from}
use Rattle.rows.specs.Calls.{fetch_row_number}
use Rattle.rows.proofs.Refused.{first_two, neither, finished-is, above-zero, fourteen}
use Rattle.rows.proofs.numbers.fetch_refusal.Goals as goal
use mathlib.Core.Path.{refl}

pub returns-in_err-usable_refusal : goal.returns-in_err-usable_refusal
unfolding fetch_row_number
returns-in_err-usable_refusal c =
    let x = c.args in
    let r = row_from x.row.now in
    let p = err_from_is_err_and c.from_residual.result c.from_residual.ensures.1 in
    rw (p.1, p.2) (first_two (is_vacant r) (damaged r) _ _ (c.in_err-usable_refusal.ensures) (above-zero _))

pub returns : goal.returns
unfolding fetch_row_number
returns c =
    let x = c.args in
    let r = row_from x.row.now in
    let h = neither (is_vacant r) (damaged r) _ (c.in_ok-usable_refusal.ensures) (omega arith) in
    let over = finished-is r c.is_over.ensures c.kind.ensures c.phase.ensures refl in
    rw (c.unless.ensures, h.0, h.1, over) (fourteen c.is_over.result)
