-- `rows::numbers::turn_refusal` meets its contract: the arrays that the test is not lent are the row's. Assumes nothing.
use mathlib.Core.Path.{◌∙◌}
use Rattle.held.specs.RowFrom.{row_from}
use Rattle.helddamage.specs.Others.{held_with}
use Rattle.rows.specs.Calls.{turn_row_number}
use Rattle.rows.specs.Others.{others_of}
use Rattle.rows.proofs.numbers.turn_refusal.Goals as goal

pub returns : goal.returns
returns c =
    let h = c.args.row.now in
    let e = c.lent.ensures in
    c.turn_refusal_over.ensures (others_of h)
    ∙ (λ i. turn_row_number c.args.room (row_from (held_with h.head.words (e.counts i) (e.numbers i) h.run.surfaces h.best.surfaces (others_of h))))
