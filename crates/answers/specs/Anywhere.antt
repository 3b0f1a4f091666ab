-- Texts that are put, to the same console or to another, and their laws. Assumes nothing.
use Rattle.std.specs.Prelude.{◌≡◌, ℕ, ◌≤◌, List, ◌++◌, length}
use Rattle.std.proofs.Common.{◌∙◌, subst}
use Rattle.streams.specs.declared.output.Output.{Output}
use Rattle.streams.specs.Output.{Put, Puts}
use Rattle.streams.specs.OutputLaws.{then, put_as}

-- `Puts`, but that nothing is said of the console
pub record PutsAnywhere (o : Output) (texts : List (List ℕ)) (n : Output) : Type 0 where
  pub put : Put o.waiting o.buffer.now texts n.waiting n.buffer.now
  pub within : n.waiting.bytes ≤ length n.buffer.now
  pub room : length n.buffer.now ≡ length o.buffer.now
  pub lent : n.buffer.ghost_name ≡ o.buffer.ghost_name

pub anywhere : {o n : Output} {ts : List (List ℕ)} → Puts o ts n → PutsAnywhere o ts n
anywhere p = record { put = p.put; within = p.within; room = p.room; lent = p.lent }

pub anywhere_as : {o n : Output} {ts us : List (List ℕ)} → ts ≡ us → PutsAnywhere o ts n → PutsAnywhere o us n
anywhere_as e p = record { put = put_as e p.put; within = p.within; room = p.room; lent = p.lent }

pub anywhere_from : {o z n : Output} {ts : List (List ℕ)} → o ≡ z → PutsAnywhere o ts n → PutsAnywhere z ts n
anywhere_from {n = n} {ts = ts} e p = subst (λ (x : Output). PutsAnywhere x ts n) e p

pub anywhere_then : {o m n : Output} {ts us : List (List ℕ)} → PutsAnywhere o ts m → PutsAnywhere m us n → PutsAnywhere o (ts ++ us) n
anywhere_then a b = record { put = then a.put b.put a.room; within = b.within; room = b.room ∙ a.room; lent = b.lent ∙ a.lent }
