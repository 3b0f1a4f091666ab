-- `damage::tally::put` meets its contract: after so many entries what waits is what their lines add. Assumes nothing.
use Rattle.std.proofs.Common.{◌≡◌, ℕ, ◌+◌, ◌<◌, ◌≤◌, min, List, [], ◌∷◌, ◌++◌, length, take, get_or, sym, ap, ◌∙◌, arith, rules}
use Rattle.std.proofs.Common.{length-append, take_all}
use Rattle.std.proofs.lemmas.Slice.Zip.{zip_turn, zip_end, length-zip, get_or-zip}
use Rattle.std.specs.List.{zip}
use Rattle.streams.specs.OutputLaws.{puts_then, puts_as, puts_clipped}
use Rattle.answers.specs.Entries.{all_texts}
use Rattle.answers.specs.EntryLaws.{one_more}
use Rattle.damage.specs.Tally.{entry_texts}
use Rattle.damage.specs.declared.entries.Entry.{Entry}
use Rattle.damage.specs.declared.entries.TheConstants.{ENTRIES}
use Rattle.damage.specs.declared.tally.Count.{Count}
use Rattle.damage.proofs.tally.put.Goals as goal

-- one line more
line_more
    : (es : List Entry) (cs : List Count) (i j : ℕ) (e : Entry) (c : Count)
    → i < length es
    → i < length cs
    → e ≡ get_or es i e
    → c ≡ get_or cs i c
    → j ≡ i + 1
    → all_texts entry_texts (take i (zip es cs)) ++ entry_texts (e, c) ≡ all_texts entry_texts (take j (zip es cs))
line_more es cs i j e c h k p q s =
    let here : i < length (zip es cs) = rw length-zip (omega arith) in
    let pair : (e, c) ≡ get_or (zip es cs) i (e, c) = (λ n. (p n, q n)) ∙ sym (get_or-zip es cs i (e, c) h k) in
    ap (λ (x : Entry × Count). all_texts entry_texts (take i (zip es cs)) ++ entry_texts x) pair
    ∙ one_more entry_texts (zip es cs) i (e, c) here ∙ ap (λ (n : ℕ). all_texts entry_texts (take n (zip es cs))) (sym s)

-- all lines
all_lines : (es : List Entry) (cs : List Count) (n : ℕ) → n ≡ min (length es) (length cs) → take n (zip es cs) ≡ zip es cs
all_lines es cs n e =
    let whole : length (zip es cs) ≤ n = rw length-zip (omega arith) in
    take_all n (zip es cs) whole

pub loop-entry-init : goal.loop-entry-init
unfolding all_texts
loop-entry-init c = puts_clipped c.clip.ensures

pub loop-entry-preserved : goal.loop-entry-preserved
loop-entry-preserved c =
    let l = c.loop-entry in
    let counts = c.args.tally.now in
    let entry = c.in-Some.entry in
    let count = c.in-Some.count in
    let turn = zip_turn ENTRIES counts l.yielded c.into_iter-entry-iterator.result l.entry-iterator c.next.new.self c.next.result (search rules) (search rules)
    l.yielded_by (entry, count) c.in-Some.is c.next.ensures.steps in
    let long = length-append l.yielded ((entry, count) ∷ []) in
    puts_as (line_more ENTRIES counts (length l.yielded) _ entry.now count.now turn.0 turn.1 (turn.2 entry.now) (turn.3 count.now) long)
    (puts_then l.invariant c.put_line.ensures)

pub returns : goal.returns
returns c =
    let l = c.loop-entry in
    let counts = c.args.tally.now in
    let all = zip_end ENTRIES counts l.yielded c.into_iter-entry-iterator.result l.entry-iterator c.next.new.self c.next.result (search rules) (search rules)
    l.yielded_by c.in-None.is c.next.ensures.steps in
    puts_as (ap (all_texts entry_texts) (all_lines ENTRIES counts (length l.yielded) all)) l.invariant
