-- `callplay::answer::put_finished` meets its contract: after so many places what waits is what they add. Assumes nothing.
use Rattle.std.proofs.Common.{◌≡◌, ℕ, ◌-◌, ◌≤◌, min, List, [], ◌∷◌, ◌++◌, length, take, replicate, sym, ap, ◌∙◌, arith, rules, take_all, length-append}
use Rattle.std.proofs.lemmas.List.{take-append-le, length-replicate}
use Rattle.bench.specs.Calls.{finished_places}
use Rattle.bench.specs.declared.types.Finished.{Finished}
use Rattle.streams.specs.OutputLaws.{puts_then, puts_as}
use Rattle.answers.specs.Entries.{all_texts}
use Rattle.answers.specs.EntryLaws.{one_more}
use Rattle.answers.specs.Pieces.{number_texts}
use Rattle.callplay.specs.Answers.{numbers_texts}
use Rattle.callplay.proofs.answer.put_finished.Goals as goal

-- at most four are finished, and the four begin with them
all_listed
    : (l : List ℕ) (n : ℕ)
    → n ≡ min (length l) 4
    → length (l ++ replicate (4 - length l) 0) ≡ 4
    → take n (l ++ replicate (4 - length l) 0) ≡ l
all_listed l n e h =
    let rest : List ℕ = replicate (4 - length l) 0 in
    let within : length l ≤ 4 = omega (arith, h, length-append l rest, length-replicate {A = ℕ}) in
    let below : n ≤ length l = omega (arith, e) in
    let whole : length l ≤ n = omega (arith, e) in
    take-append-le n l rest below ∙ take_all n l whole

pub loop-place-init : goal.loop-place-init
unfolding all_texts
loop-place-init c = puts_as (ap (λ (f : Finished). number_texts (76 ∷ []) f.count) c.finished_places-finished.ensures) c.put_number.ensures

pub loop-place-preserved : goal.loop-place-preserved
loop-place-preserved c =
    let l = c.loop-place in
    let head = number_texts (76 ∷ []) (length (finished_places c.args.bench.now)) in
    let more = one_more (number_texts []) (take c.min-n.result c.finished_places-finished.result.places) l.place-index 0 c.loop-place-test.true in
    puts_as (ap (λ (t : List (List ℕ)). head ++ t) more) (puts_then l.invariant c.put_number-in-loop-place.ensures)

pub returns : goal.returns
returns c =
    let l = c.loop-place in
    let places = finished_places c.args.bench.now in
    let n = c.min-n.result in
    let found = c.finished_places-finished in
    let four : length found.result.places ≡ 4 = search rules in
    let same = ap (λ (f : Finished). take n f.places) found.ensures in
    let count = c.min-n.ensures ∙ ap (λ (f : Finished). min f.count 4) found.ensures in
    let long = sym (ap (λ (f : Finished). length f.places) found.ensures) ∙ four in
    let all = take_all l.place-index (take n found.result.places) c.loop-place-test.false ∙ same ∙ all_listed places n count long in
    puts_then (puts_as (ap (λ (m : List ℕ). number_texts (76 ∷ []) (length places) ++ numbers_texts m) all) l.invariant) c.end_line.ensures
