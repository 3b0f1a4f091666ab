-- `callplay::pieces::put_answer` meets its contract: after so many numbers what waits is what they add. Assumes nothing.
use Rattle.std.proofs.Common.{ℕ, List, [], ◌++◌, ap, take_all}
use Rattle.streams.specs.OutputLaws.{puts_then, puts_as}
use Rattle.answers.specs.Entries.{all_texts}
use Rattle.answers.specs.EntryLaws.{one_more}
use Rattle.answers.specs.Pieces.{number_texts}
use Rattle.callplay.specs.Answers.{numbers_texts}
use Rattle.callplay.proofs.pieces.put_answer.Goals as goal

pub loop-x-init : goal.loop-x-init
unfolding all_texts
loop-x-init c = c.put_name.ensures

pub loop-x-preserved : goal.loop-x-preserved
loop-x-preserved c =
    let l = c.loop-x in
    let more = one_more (number_texts []) c.args.more.now l.x-index 0 c.loop-x-test.true in
    puts_as (ap (λ (t : List (List ℕ)). number_texts c.args.name.now c.args.number ++ t) more) (puts_then l.invariant c.put_number.ensures)

pub returns : goal.returns
returns c =
    let l = c.loop-x in
    let all = take_all l.x-index c.args.more.now c.loop-x-test.false in
    puts_then (puts_as (ap (λ (m : List ℕ). number_texts c.args.name.now c.args.number ++ numbers_texts m) all) l.invariant) c.end_line.ensures
