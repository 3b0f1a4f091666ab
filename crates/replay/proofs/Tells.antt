-- A reply behind what was put before it. Assumes nothing.
use Rattle.std.proofs.Common.{ℕ, List, []}
use Rattle.streams.specs.declared.output.Output.{Output}
use Rattle.streams.specs.Output.{Puts}
use Rattle.streams.specs.OutputLaws.{puts_then}
use Rattle.answers.specs.LineLaws.{puts_counted}
use Rattle.replay.specs.Replies.{Tells, count_of}

-- the head is put before a refusal is counted
pub tells_behind : {o m n : Output} {head : List (List ℕ)} → Puts o head m → Tells [] m n → Tells head o n
tells_behind p t = record { reply = t.reply; puts = puts_then (puts_counted (count_of t.reply) p) t.puts }
