-- std's root is the definition's. Assumes nothing.
use Rattle.std.proofs.Common.{◌∙◌}
use Rattle.floats.specs.BasicLaws.{is-so}
use Rattle.floatlaws.proofs.StdRoot.{std_root}
use Rattle.roots.proofs.sqrt.Goals as goal

-- std's contract says what its root is,
-- and `std_root` that this is the definition's.
pub returns : goal.returns
returns c = c.sqrt.ensures.value ∙ std_root c.args.x (is-so _ c.well_formed.0.1)
