-- `answers::pieces::put_row` meets its contract. Assumes nothing.
use Rattle.std.proofs.Common.{◌≡◌, ℕ, length, take, sym, ap, arith, length-take-le, rules}
use Rattle.streams.specs.Output.{float_texts}
use Rattle.streams.specs.OutputLaws.{puts_then, puts_as}
use Rattle.answers.proofs.pieces.put_row.Goals as goal

pub slice_bounds-put_floats-end : goal.slice_bounds-put_floats-end
slice_bounds-put_floats-end c =
    let row = c.args.row in
    let e : length row ≡ 12 = search rules in
    sym (length-take-le c.min.result row (omega arith))

pub returns : goal.returns
returns c =
    let floats = puts_as (ap (λ (n : ℕ). float_texts (take n c.args.row)) c.min.ensures) c.put_floats.ensures in
    puts_then c.put_number.ensures floats
