-- `answers::result::put_lens` meets its contract. Assumes nothing.
use Rattle.std.proofs.Common.{ap}
use Rattle.streams.specs.OutputLaws.{puts_then, puts_as}
use Rattle.answers.specs.Pieces.{surfaces_texts}
use Rattle.answers.proofs.result.put_lens.Goals as goal

pub returns : goal.returns
returns c =
    let surfaces = puts_as (ap (surfaces_texts c.args.res.surfaces) c.min.ensures) c.put_all_there.ensures in
    puts_then (puts_then (puts_then c.put_number.ensures surfaces) c.put_row.ensures) c.put_row-2.ensures
