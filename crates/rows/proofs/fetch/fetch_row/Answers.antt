-- `rows::fetch::fetch_row` meets its contract. Assumes nothing.
use mathlib.Core.Path.{◌∙◌}
use native.Mathlib.Omega.{arith}
use Rattle.std.proofs.lemmas.Result.{err_from_is_err_and}
use Rattle.runs.specs.Rows.{result_of}
use Rattle.held.specs.RowFrom.{row_from}
use Rattle.rows.specs.Calls.{fetched_of_row}
use Rattle.rows.proofs.Refused.{kept_by, made_by, above-zero, fetchable}
use Rattle.rows.proofs.Undamaged.{result-within}
use Rattle.rows.proofs.fetch.fetch_row.Goals as goal

pub returns-in_err-fetch_refusal : goal.returns-in_err-fetch_refusal
unfolding fetched_of_row
returns-in_err-fetch_refusal c =
    let p = err_from_is_err_and c.from_residual.result c.from_residual.ensures.1 in
    let e = c.in_err-fetch_refusal.ensures in
    rw (p.1, p.2) (e, kept_by _ _ e (result_of (row_from c.args.row.now)) c.args.res.now (above-zero _))

pub result_of-requires : goal.result_of-requires
result_of-requires c =
    let r = row_from c.args.row.now in
    result-within r (fetchable _ r c.in_ok-fetch_refusal.ensures (omega arith))

pub returns : goal.returns
unfolding fetched_of_row
returns c =
    let e = c.in_ok-fetch_refusal.ensures in
    (e, c.result_of.ensures ∙ made_by _ _ e (result_of (row_from c.args.row.now)) c.args.res.now (omega arith))
