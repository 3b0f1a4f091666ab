-- `rowturns::scratch::zero_first` meets its contract: a zero is filled in, and the clone of a number is that number. Assumes nothing.
use Rattle.std.proofs.Common.{List, ℕ, ◌++◌, ap, ◌∙◌, arith, length-take-le, drop}
use lib.ListN.{replicate}
use lib.Ieee.{Float}
use Rattle.floats.specs.Constants.{zero64}
use Rattle.normal.specs.Layout.{scratch_length}
use Rattle.rowturns.proofs.scratch.zero_first.Goals as goal

pub returns : goal.returns
returns c =
    let s = c.args.scratch.now in
    ap (λ (l : List Float). l ++ drop scratch_length s)
    (c.fill.ensures.after (λ y k. k) ∙ ap (λ (n : ℕ). replicate n zero64) (length-take-le scratch_length s (omega arith)))
