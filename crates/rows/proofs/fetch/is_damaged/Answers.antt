-- `rows::fetch::is_damaged` meets its contract: past a kind that is one, the damage test decides. Assumes nothing.
use mathlib.Core.Path.{◌∙◌}
use borrow.Author.Tests.{ne_eqb}
use Rattle.held.specs.RowFrom.{kind_from}
use Rattle.rows.proofs.fetch.is_damaged.Goals as goal

pub returns-then-kind-ne0 : goal.returns-then-kind-ne0
returns-then-kind-ne0 c =
    let h = c.args.row.now in
    rw (ne_eqb (kind_from h.head.words) 0 (λ z. c.if-kind-ne0.true (c.kind.ensures ∙ z))) c.row_damaged.ensures
