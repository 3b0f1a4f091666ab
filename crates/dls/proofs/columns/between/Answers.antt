-- `dls::columns::between` meets its contract: the moved parameters are `p_plus` and `p_minus`. Assumes nothing.
use Rattle.held.specs.RowFrom.{damped_from}
use Rattle.dls.proofs.Differences.{between-both}
use Rattle.dls.proofs.columns.between.Goals as goal

pub returns : goal.returns
returns c = λ m.
    let x = c.args in
    between-both x.config _ m (damped_from x.h x.run.now) c.active_at-variable.ensures c.moved_up-plus.ensures c.moved_down-minus.ensures
    c.denominator.ensures
