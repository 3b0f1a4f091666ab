-- `joblines::followers::read_listed` meets its contract. Assumes nothing.
use Rattle.std.proofs.Common.{refl, ap, ◌∙◌, arith}
use Rattle.std.proofs.lemmas.Grind.{common_steps}
use Rattle.joblines.specs.Followers.{follower_from, with_follower, followers_listed}
use Rattle.text.specs.Reader.{left_at}
use Rattle.joblines.proofs.Reading.{left, laid, not-laid, begin, more, stopped, ended}
use Rattle.joblines.proofs.followers.read_listed.Goals as goal

pub loop-init : goal.loop-init
unfolding followers_listed
loop-init c = record { same = refl; reading = begin _ _ _ _ _ _ refl }

pub loop-preserved : goal.loop-preserved
loop-preserved c =
    let l = c.loop in
    let read = c.in_ok-p.ensures in
    let put = laid (follower_from c.args.count) with_follower l.variables c.args.reader.now.line.now l.reader.at
    (rw l.invariant.same at read.value) c.follow.ensures in
    record { same = read.same ∙ l.invariant.same; reading = more _ _ _ _ l.invariant.reading c.loop-test.true put }

pub returns-in_err-p : goal.returns-in_err-p
returns-in_err-p c =
    let l = c.loop in
    let read = c.in_err-p.ensures in
    let none = not-laid (follower_from c.args.count) with_follower l.variables c.args.reader.now.line.now l.reader.at c.read_follower.new.reader.at
    (rw l.invariant.same at read.value) in
    let end = stopped _ _ _ _ l.invariant.reading {w = c.in_err-p.field-0.0} c.loop-test.true none in
    record {
      value = grind (arith, common_steps, end);
      left = left c.read_follower.new.reader.at read.value read.left end;
      same = read.same ∙ l.invariant.same;
    }

pub returns : goal.returns
returns c =
    let end = ended _ _ _ _ c.loop.invariant.reading c.loop-test.false in
    record { value = end; left = ap left_at end; same = c.loop.invariant.same }
