-- `answers::pieces::put_unknown` meets its contract. Assumes nothing.
use Rattle.std.proofs.Common.{ℕ, ◌+◌, ◌%◌, ◌^◌, [], ◌∷◌, ap}
use Rattle.streams.specs.OutputLaws.{puts_then, puts_as, puts_from}
use Rattle.answers.specs.Pieces.{number_texts}
use Rattle.answers.proofs.pieces.put_unknown.Goals as goal

pub returns : goal.returns
returns c =
    let field = ap (λ (n : ℕ). (n + 1) % 2 ^ 64) c.words_before-field.ensures in
    let number = puts_from c.count_unknown.ensures c.put_number.ensures in
    let named = puts_as (ap (number_texts (32 ∷ 102 ∷ 105 ∷ 101 ∷ 108 ∷ 100 ∷ [])) field) c.put_number-2.ensures in
    puts_then (puts_then (puts_then number named) c.put.ensures) c.put_fault.ensures
