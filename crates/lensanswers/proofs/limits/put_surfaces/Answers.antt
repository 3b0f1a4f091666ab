-- `lensanswers::limits::put_surfaces` meets its contract: after i surfaces what waits is what i surfaces add. Assumes nothing.
use Rattle.std.proofs.Common.{◌≡◌, ℕ, ◌+◌, List, ◌++◌, get_or, add-one, rules}
use Rattle.intervals.specs.Interval.{no_interval}
use Rattle.intervals.specs.declared.types.Interval.{Interval}
use Rattle.streams.specs.OutputLaws.{puts_then, puts_as, nothing_puts}
use Rattle.lensanswers.specs.Lens.{ends_texts, all_ends_texts}
use Rattle.lensanswers.proofs.limits.put_surfaces.Goals as goal

one_more : (ys us : List Interval) (i : ℕ) → all_ends_texts ys us i
    ++ ends_texts (get_or ys i no_interval) (get_or us i no_interval) ≡ all_ends_texts ys us (i + 1)
unfolding all_ends_texts
one_more ys us i = rw add-one

pub loop-i-init : goal.loop-i-init
unfolding all_ends_texts
loop-i-init c = nothing_puts c.clip.new.self (rw c.clip.ensures (search rules))

pub loop-i-preserved : goal.loop-i-preserved
loop-i-preserved c =
    let t = c.args.traced in
    let l = c.loop-i in
    puts_as (one_more t.heights t.slopes l.i) (puts_then l.invariant c.put_surface.ensures)
