-- `leaves::matrix::put_product` meets its contract: after i rows i times p numbers are put. Assumes nothing.
use Rattle.std.proofs.Common.{◌≡◌, ℕ, ◌*◌, ap, arith}
use Rattle.leaves.proofs.Rows.{no_row, row_as, rows_then}
use Rattle.leaves.proofs.matrix.put_product.Goals as goal

pub loop-i-init : goal.loop-i-init
loop-i-init c = row_as (omega arith) (no_row c.clip.ensures)

pub loop-i-preserved : goal.loop-i-preserved
loop-i-preserved c = row_as (omega arith) (rows_then c.loop-i.invariant c.put_product_row.ensures)

pub returns : goal.returns
returns c =
    let all : c.loop-i.i ≡ c.args.p = omega arith in
    row_as (ap (λ (i : ℕ). i * c.args.p) all) c.loop-i.invariant
