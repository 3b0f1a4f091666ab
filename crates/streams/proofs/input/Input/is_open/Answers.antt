-- `streams::input::Input::is_open` meets its contract: at which two stages there may be another line. Assumes nothing.
use Rattle.std.proofs.Common.{◌≡◌, ◌⊎◌, inl, inr, true, sym, ap}
use Rattle.streams.specs.Input.{open_at}
use Rattle.streams.specs.declared.input.Stage.{Stage}
use Rattle.streams.specs.declared.input.Stage.TheVariants.{Reading, Ended}
use Rattle.streams.proofs.input.Input.is_open.Goals as goal

reads_on : (s : Stage) → (s ≡ Reading) ⊎ (s ≡ Ended) → true ≡ open_at s
reads_on s (inl e) = sym (ap open_at e)
reads_on s (inr e) = sym (ap open_at e)

pub returns-in-Reading : goal.returns-in-Reading
returns-in-Reading c = reads_on c.args.self.now.stage c.in-Reading.is
