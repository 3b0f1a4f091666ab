-- A line counted after its texts. Assumes nothing.
use Rattle.std.specs.Prelude.{ℕ, ◌+◌, ◌%◌, ◌^◌, Bool, cond, List, Option, Some, None}
use Rattle.std.proofs.Common.{ap}
use Rattle.streams.specs.declared.output.Output.{Output}
use Rattle.streams.specs.Output.{Puts}
use Rattle.answers.specs.Lines.{counted}

-- texts that are put before a line is counted are those put after it
pub puts_counted : (refused : Option Bool) {o n : Output} {ts : List (List ℕ)} → Puts o ts n → Puts (counted refused o) ts (counted refused n)
puts_counted None p = p
puts_counted (Some is) p = record {
  put = record {
    held = p.put.held;
    fits = p.put.fits;
    onward = record {
      refused = ap (λ (k : ℕ). (k + cond is 1 0) % 2 ^ 64) p.put.onward.refused;
      unknown = p.put.onward.unknown;
      lost = p.put.onward.lost;
    };
  };
  within = p.within;
  room = p.room;
  lent = p.lent;
  console = p.console;
}
