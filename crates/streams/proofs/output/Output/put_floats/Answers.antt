-- `streams::output::Output::put_floats` meets its contract: after i floats what waits is what i floats add. Assumes nothing.
use Rattle.std.proofs.Common.{[], ◌∷◌, take, sym, ap, ◌∙◌, append_assoc, take_all, rules}
use Rattle.streams.specs.OutputLaws.{puts_then, puts_as, nothing_puts, puts_clipped, next-float}
use Rattle.streams.specs.Output.{blank, float_texts}
use Rattle.streams.proofs.output.Output.put_floats.Goals as goal

pub loop-x-init : goal.loop-x-init
unfolding float_texts
loop-x-init c = nothing_puts c.clip.new.self (rw c.clip.ensures (search rules))

pub loop-x-preserved : goal.loop-x-preserved
loop-x-preserved c =
    let l = c.loop-x in
    let row = c.args.row.now in
    let ts = float_texts (take l.x-index row) in
    let both = puts_then (puts_then l.invariant c.put.ensures) c.put_float.ensures in
    puts_as (append_assoc ts (blank ∷ []) _ ∙ sym (next-float row l.x-index _ c.loop-x-test.true)) both

pub returns : goal.returns
returns c =
    let l = c.loop-x in
    puts_as (ap float_texts (take_all l.x-index c.args.row.now c.loop-x-test.false)) (puts_then (puts_clipped c.clip.ensures) l.invariant)
