-- `answers::heads::put_head` meets its contract. Assumes nothing.
use Rattle.std.proofs.Common.{◌≡◌, ℕ, List, ap, ◌∙◌}
use Rattle.streams.specs.OutputLaws.{puts_then, puts_as}
use Rattle.text.specs.declared.reader.Reader.{Reader}
use Rattle.text.specs.Fields.{text_of}
use Rattle.text.specs.Words.{word_from}
use Rattle.answers.specs.Pieces.{number_texts}
use Rattle.answers.specs.Heads.{id_text}
use Rattle.answers.proofs.heads.put_head.Goals as goal

pub returns : goal.returns
returns c =
    let a = c.args in
    let new = c.new-reader.ensures in
    let second : c.word-2.result.now ≡ id_text a.line.now =
    c.word-2.ensures.value ∙ ap (λ (r : Reader). text_of r.line.now (word_from r.line.now r.at)) c.word.ensures.after
    ∙ (λ i. text_of (new.0 i) (word_from (new.0 i) (word_from (new.0 i) (new.1 i)).to)) in
    puts_then c.put.ensures (puts_as (ap (λ (text : List ℕ). number_texts text a.kind) second) c.put_number.ensures)
