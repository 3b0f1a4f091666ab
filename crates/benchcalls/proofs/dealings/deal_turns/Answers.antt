-- `benchcalls::dealings::deal_turns` meets its contract. Assumes nothing.
use Rattle.std.proofs.Common.{◌≡◌, ◌<◌, ◌∙◌, length, subst, sym}
use Rattle.std.proofs.lemmas.Result.{err_from_is_err_and}
use Rattle.dealing.specs.declared.types.Round.{Round}
use Rattle.dealing.specs.Standing.{Standing, Begun, stands, ends, goes_on, measure}
use Rattle.benchcalls.proofs.dealings.deal_turns.Goals as goal

pub returns-in_err-round : goal.returns-in_err-round
returns-in_err-round c =
    let x = c.args in
    let p = err_from_is_err_and c.from_residual.result c.from_residual.ensures.1 in
    let none = subst (Begun x.bench.now x.turns x.scratch.now) (sym c.in_err-round.ensures) (stands x.bench.now x.turns x.scratch.now) in
    rw (p.1, p.2) (none.dealt, none.bench, none.scratch)

pub loop-round-init : goal.loop-round-init
loop-round-init c =
    let x = c.args in
    subst (Begun x.bench.now x.turns x.scratch.now) (sym c.in_ok-round.ensures) (stands x.bench.now x.turns x.scratch.now)

pub loop-round-preserved : goal.loop-round-preserved
loop-round-preserved c =
    let x = c.args in
    let l = c.loop-round in
    let t = c.take_turn-answer in
    let e = t.ensures in
    let long : length t.new.scratch ≡ length x.scratch.now = t.auto.scratch ∙ l.invariant.long in
    subst (λ (r : Round). Standing x.bench.now x.turns x.scratch.now r t.new.bench t.new.scratch) (sym c.moved-round.ensures)
    (goes_on x.bench.now x.turns x.scratch.now l.round l.bench l.scratch l.invariant c.loop-round-test.true _ t.new.bench t.new.scratch
    e.0 e.1 e.2 long).0

pub loop-round-smaller : goal.loop-round-smaller
loop-round-smaller c =
    let x = c.args in
    let l = c.loop-round in
    let t = c.take_turn-answer in
    let e = t.ensures in
    let long : length t.new.scratch ≡ length x.scratch.now = t.auto.scratch ∙ l.invariant.long in
    subst (λ (r : Round). measure r < measure l.round) (sym c.moved-round.ensures)
    (goes_on x.bench.now x.turns x.scratch.now l.round l.bench l.scratch l.invariant c.loop-round-test.true _ t.new.bench t.new.scratch
    e.0 e.1 e.2 long).1

pub returns : goal.returns
returns c = ends c.args.bench.now c.args.turns c.args.scratch.now c.loop-round.round c.loop-round.bench c.loop-round.scratch c.loop-round.invariant
    c.loop-round-test.false
