-- `lensanswers::trace::put_traced` meets its contract. Assumes nothing.
use Rattle.std.proofs.Common.{ap}
use Rattle.streams.specs.OutputLaws.{puts_then, puts_as}
use Rattle.lensanswers.specs.Lens.{rays_texts}
use Rattle.lensanswers.proofs.trace.put_traced.Goals as goal

pub returns : goal.returns
returns c = puts_then c.put_number.ensures (puts_as (ap (rays_texts c.args.rays) c.min.ensures) c.put_all_there.ensures)
