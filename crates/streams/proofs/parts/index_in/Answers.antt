-- `streams::parts::index_in` meets its contract. Assumes nothing.
use Rattle.std.proofs.Common.{◌≡◌, ℕ, ◌==◌, Bool, List, length, Option, ap, ◌∙◌, arith}
use Rattle.std.specs.Option.{unwrap_or}
use Rattle.std.specs.List.{position, position_or_len}
use Rattle.std.proofs.lemmas.Bool.Decides.{nat_tests}
use Rattle.std.proofs.lemmas.List.Sums.{prefix_len-le-length}
use Rattle.streams.proofs.parts.index_in.Goals as goal

or_length : (p : ℕ → Bool) (xs : List ℕ) → unwrap_or (position p xs) (length xs) ≡ position_or_len p xs
or_length p xs = grind (arith, nat_tests, prefix_len-le-length)

pub returns-clause-value : goal.returns-clause-value
returns-clause-value c =
    let a = c.args in
    c.unwrap_or.ensures ∙ ap (λ (o : Option ℕ). unwrap_or o (length a.part.now)) c.place_in.ensures ∙ or_length (λ (x : ℕ). x == a.byte) a.part.now
