-- `heldrows::written::first_numbers` meets its contract. Assumes nothing.
use mathlib.Core.Path.{refl}
use Rattle.held.specs.Places.{pupil_at, min_value_at}
use Rattle.held.specs.Written.{pupil_and_settings}
use Rattle.held.specs.WrittenLaws.{front-more}
use Rattle.std.proofs.Common.{rules}
use Rattle.heldrows.proofs.written.first_numbers.Goals as goal

pub returns : goal.returns
returns c =
    let l = c.lens_numbers-numbers in front-more l.result _ (pupil_and_settings c.args.job) pupil_at (min_value_at 0) l.ensures
    refl (search rules)
