-- `Entry::put` of a ray meets its contract: what a `ConsoleEntry` puts is put. Assumes nothing.
use Rattle.answers.specs.Anywhere.{anywhere}
use Rattle.answers.proofs.anywhere.ParaxialRayEntry.put.Goals as goal

pub returns : goal.returns
returns c = anywhere c.put.ensures
