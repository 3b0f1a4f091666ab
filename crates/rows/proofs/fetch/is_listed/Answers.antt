-- `rows::fetch::is_listed` meets its contract: where nothing refuses a fetch. Assumes nothing.
use Prim.Native.Nat.{ℕ}
use mathlib.Core.Path.{ap, ◌∙◌}
use lib.Dec.{eqb}
use Rattle.runs.specs.Damage.{damaged}
use Rattle.runs.specs.Rows.{is_finished}
use Rattle.held.specs.RowFrom.{row_from}
use Rattle.bench.specs.Calls.{is_vacant}
use Rattle.rows.specs.Calls.{fetch_row_number}
use Rattle.rows.proofs.Refused.{done-is, listed}
use Rattle.rows.proofs.fetch.is_listed.Goals as goal

pub returns : goal.returns
unfolding fetch_row_number
returns c =
    let r = row_from c.args.row.now in
    c.is_ok.ensures.value ∙ done-is c.fetch_refusal.result ∙ ap (λ (k : ℕ). eqb k 0) c.fetch_refusal.ensures ∙ listed (is_vacant r) (damaged r) (is_finished r)
