-- `rows::numbers::turn_refusal_over` meets its contract: one after the other. Assumes nothing.
use native.Mathlib.Omega.{arith}
use mathlib.Core.Path.{◌≡◌, refl}
use mathlib.Core.Bool.{false}
use Rattle.std.proofs.Common.{rules}
use Rattle.bench.specs.Refusals.{scratch_short}
use Rattle.std.proofs.lemmas.Result.{err_from_is_err_and}
use Rattle.runs.specs.Damage.{damaged}
use Rattle.bench.specs.Calls.{is_vacant}
use Rattle.held.specs.RowFrom.{row_from}
use Rattle.helddamage.specs.Others.{Others, held_with}
use Rattle.rows.specs.Calls.{turn_row_number}
use Rattle.rows.proofs.Refused.{first_two, neither, finished-is, above-zero, thirteen}
use Rattle.rows.proofs.numbers.turn_refusal_over.Goals as goal

pub returns-in_err-usable_over : goal.returns-in_err-usable_over
unfolding turn_row_number
returns-in_err-usable_over c = λ o.
    let x = c.args in
    let r = row_from (held_with x.words.now x.job.counts.now x.job.numbers.now x.surfaces.now x.best_surfaces.now o) in
    let q = c.from_residual-in_err-usable_over in
    let p = err_from_is_err_and q.result q.ensures.1 in
    let long : scratch_short x.room ≡ false = search rules in
    rw (p.1, p.2, long) (first_two (is_vacant r) (damaged r) _ _ (c.in_err-usable_over.ensures o) (above-zero _))

pub returns : goal.returns
unfolding turn_row_number
returns c = λ o.
    let x = c.args in
    let r = row_from (held_with x.words.now x.job.counts.now x.job.numbers.now x.surfaces.now x.best_surfaces.now o) in
    let h = neither (is_vacant r) (damaged r) _ (c.in_ok-usable_over.ensures o) (omega arith) in
    let over = finished-is r c.is_over.ensures refl refl refl in
    let long : scratch_short x.room ≡ false = search rules in
    rw (c.unless-2.ensures, long, h.0, h.1, over) (thirteen c.is_over.result)
