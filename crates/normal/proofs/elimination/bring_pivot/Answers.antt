-- `normal::elimination::bring_pivot` meets its contract: the rows are exchanged where the pivot's is another one. Assumes nothing.
use mathlib.Core.Path.{sym, ap, ◌∙◌}
use Prim.Native.Nat.{ℕ, suc, ◌+◌, ◌-◌}
use native.Mathlib.Omega.{arith}
use lib.ListN.{get_or}
use lib.Ieee.{nan}
use Rattle.normal.specs.Layout.{system_place}
use Rattle.normal.specs.Scratch.{system_in}
use Rattle.normal.specs.Loops.{parts_exchanged}
use Rattle.normal.proofs.Exchange.{brought-kept, brought-moved}
use Rattle.normal.proofs.Turns.{pivot-within}
use Rattle.normal.proofs.elimination.bring_pivot.Goals as goal

pub returns-then-best-c : goal.returns-then-best-c
returns-then-best-c c =
    let x = c.args in
    let l = x.scratch.now in record {
      fact_1 = ap (λ (n : ℕ). get_or l n nan) c.system_place-here.ensures;
      fact_2 = brought-kept x.p.count x.c l (sym c.pivot_row-best.ensures ∙ c.if-best-c.true);
    }

pub system_place-requires : goal.system_place-requires
system_place-requires c =
    let x = c.args in
    let within = pivot-within (system_in x.scratch.now) x.c (x.p.count - suc x.c) in
    omega (arith, c.pivot_row-best.ensures)

pub exchange-requires : goal.exchange-requires
exchange-requires c =
    let x = c.args in
    let within = pivot-within (system_in x.scratch.now) x.c (x.p.count - suc x.c) in
    omega (arith, c.pivot_row-best.ensures)

pub returns : goal.returns
returns c =
    let s = c in
    let x = s.args in
    let r = s.pivot_row-best.ensures in
    let here = s.system_place-here.ensures in record {
      fact_1 = ap (λ (n : ℕ). get_or c.exchange.new.scratch n nan) here;
      fact_2 = c.exchange.ensures
          ∙ (λ t. parts_exchanged (here t) ((s.system_place.ensures ∙ ap (λ (n : ℕ). system_place n x.c) r) t) (x.p.count + 1 - x.c) x.scratch.now)
          ∙ brought-moved x.p.count x.c x.scratch.now (λ t. s.if-best-c.false (r ∙ t));
    }
