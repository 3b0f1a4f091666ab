-- `text::words::words_before` meets its contract. The loop's invariant: what is counted, and the words that begin from `b` on, are all.
-- Assumes nothing.
use Rattle.std.proofs.Common.{◌≡◌, ℕ, ◌+◌, ◌<◌, ◌≤◌, Bool, true, List, length, get_or, take, drop, refl, ap, ◌∙◌, arith, add-one, drop-cons, drop_of_length-le}
use Rattle.std.proofs.lemmas.List.{take_min}
use Rattle.text.specs.Words.{is_blank, begins, begun}
use Rattle.text.proofs.words.words_before.Goals as goal

-- one byte further
step : (part : List ℕ) (between blank : Bool) (i : ℕ) → i < length part → blank ≡ is_blank (get_or part i 0) → begun between (drop i part)
    ≡ begins between blank + begun blank (drop (i + 1) part)
unfolding begun
step part between blank i h is = rw (drop-cons part i 0, add-one, ← is) refl

ends : (part : List ℕ) (between : Bool) (i : ℕ) → length part ≤ i → begun between (drop i part) ≡ 0
unfolding begun
ends part between i h = rw drop_of_length-le

pub loop-b-preserved : goal.loop-b-preserved
loop-b-preserved c =
    let l = c.loop-b in
    let s = step (take c.min.result c.args.line.now) l.is_between _ l.b-index c.loop-b-test.true c.is_blank-blank.ensures in
    let n = c.begins-count.ensures.value in
    (omega (arith, c.begins-count.ensures.upper_bound), omega (arith, s, n, l.invariant.1))

pub returns : goal.returns
returns c =
    let a = c.args in
    let l = c.loop-b in
    let e = ends (take c.min.result a.line.now) l.is_between l.b-index c.loop-b-test.false in
    let all : l.count ≡ begun true (take c.min.result a.line.now) = omega (arith, e, l.invariant.1) in
    all ∙ ap (λ (n : ℕ). begun true (take n a.line.now)) c.min.ensures ∙ ap (begun true) (take_min a.at a.line.now)
