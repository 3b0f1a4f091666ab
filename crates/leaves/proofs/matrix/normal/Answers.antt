-- `leaves::matrix::normal` meets its contract: the line comes first. Assumes nothing.
use Rattle.std.proofs.Common.{◌≡◌, ℕ, List, Bor, Ok, ap, ◌∙◌}
use Rattle.text.specs.declared.reader.Why.TheVariants.{Range}
use Rattle.text.specs.Reader.{came, within_from}
use Rattle.streams.specs.OutputLaws.{puts_as}
use Rattle.leaves.specs.Lines.{line_texts, normal_choice}
use Rattle.leaves.specs.Replies.{Answer, IsEquations}
use Rattle.leaves.proofs.Rows.{answers_behind, of_read}
use Rattle.leaves.proofs.matrix.normal.Goals as goal

chosen
    : (line : List ℕ) (at : ℕ) {m p a b : ℕ}
    → came (Ok m) a ≡ within_from 1 12 Range line at
    → came (Ok p) b ≡ within_from 1 8 Range line a
    → (answer : Answer)
    → IsEquations p answer
    → normal_choice line at answer
chosen line at first second answer is = of_read _ first (of_read _ second is)

pub returns-clause-ok : goal.returns-clause-ok
returns-clause-ok c =
    let r = c.args.reader.now in
    let counts = c.within-2.ensures.value.same ∙ c.within.ensures.value.same in
    let same = c.read_part.ensures.same ∙ c.read_columns.ensures.same ∙ counts in
    let line = puts_as (ap (λ (l : Bor (List ℕ)). line_texts l.now) same) c.put_line.ensures in
    let second = rw c.within.ensures.value.same at c.in_ok-p.ensures.value.value in
    answers_behind (chosen r.line.now r.at c.in_ok-m.ensures.value.value second) line c.put_equations.ensures
