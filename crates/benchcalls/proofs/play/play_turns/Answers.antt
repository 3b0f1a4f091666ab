-- `benchcalls::play::play_turns` meets its contract. Assumes nothing.
use mathlib.Core.Bool.{true, false, not, true≢false}
use lib.Dec.{T, ltb}
use Rattle.std.specs.Prelude.{Result, Ok, Err, is_err, ⊤}
use Rattle.std.proofs.Common.{◌≡◌, ℕ, suc, ◌+◌, ◌-◌, ◌<◌, ◌≤◌, ap, ◌∙◌, arith, add-one, lt-ltb, subst, sym}
use Rattle.refusals.proofs.Laws.{number-distinct}
use Rattle.refusals.specs.Numbers.{answered, number_of}
use Rattle.refusals.specs.declared.Refusal.{Refusal}
use Rattle.benchcalls.specs.Play.{played, play_from}
use Rattle.benchcalls.specs.PlayLaws.{refused, taken-one, all-taken}
use Rattle.benchcalls.proofs.play.play_turns.Goals as goal

-- of the turns that are left one is taken
one-less : (count taken : ℕ) → taken < count → count - taken ≡ suc (count - (taken + 1))
one-less count taken h = omega arith

none-left : (count taken : ℕ) → count ≤ taken → count - taken ≡ 0
none-left count taken h = omega arith

-- a turn is refused by a number above 0, and taken by 0
refuses : (r : Result ⊤ Refusal) → is_err r ≡ true → T (ltb 0 (answered r))
refuses (Ok done) e = absurd (true≢false (sym e))
refuses (Err cause) e = subst T (sym (lt-ltb 0 (number_of cause) (number-distinct cause).0)) tt

takes : (r : Result ⊤ Refusal) → is_err r ≡ false → T (not (ltb 0 (answered r)))
takes (Ok done) e = tt
takes (Err cause) e = absurd (true≢false e)

pub returns-then-is_err : goal.returns-then-is_err
returns-then-is_err c =
    let x = c.args in
    let l = c.loop-taken in
    let t = c.take_turn-answer in
    let e = t.ensures in
    let big = refuses t.result (sym c.is_err.ensures.value ∙ c.if-is_err.true) in
    refused x.place (x.count - (l.taken + 1)) l.taken l.bench t.new.bench l.scratch t.new.scratch _ e.0 e.1 e.2 big
    ∙ ap (λ (n : ℕ). play_from x.place n l.taken l.bench l.scratch) (sym (one-less x.count l.taken (omega arith)))
    ∙ l.invariant

pub loop-taken-preserved : goal.loop-taken-preserved
loop-taken-preserved c =
    let x = c.args in
    let l = c.loop-taken in
    let t = c.take_turn-answer in
    let e = t.ensures in
    let small = takes t.result (sym c.is_err.ensures.value ∙ c.if-is_err.false) in
    ap (λ (n : ℕ). play_from x.place (x.count - (l.taken + 1)) n t.new.bench t.new.scratch) (add-one l.taken)
    ∙ taken-one x.place (x.count - (l.taken + 1)) l.taken l.bench t.new.bench l.scratch t.new.scratch _ e.0 e.1 e.2 small
    ∙ ap (λ (n : ℕ). play_from x.place n l.taken l.bench l.scratch) (sym (one-less x.count l.taken (omega arith)))
    ∙ l.invariant

pub returns : goal.returns
returns c =
    let x = c.args in
    let l = c.loop-taken in
    let end : x.count ≡ l.taken = omega arith in
    ap (λ (taken : ℕ). played l.bench taken 0 l.scratch) end
    ∙ all-taken x.place l.taken l.bench l.scratch
    ∙ ap (λ (n : ℕ). play_from x.place n l.taken l.bench l.scratch) (sym (none-left x.count l.taken (omega arith)))
    ∙ l.invariant
