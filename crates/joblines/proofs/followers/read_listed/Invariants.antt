-- `joblines::followers::read_listed` meets its contract. Assumes nothing.
use Rattle.std.proofs.Common.{◌≡◌, ℕ}
use Rattle.joblines.specs.Entries.{put_from}
use Rattle.joblines.specs.Followers.{follower_from, with_follower, followers_listed}
use Rattle.joblines.proofs.Reading.{Reading}
use Rattle.joblines.proofs.followers.read_listed.Given as goal

abbrev pub invariant-loop : goal.invariant-loop
invariant-loop l =
    let line = l.initial.reader.line.now in
    record {
      same : l.reader.line ≡ l.initial.reader.line;
      reading : Reading (λ (i : ℕ). put_from (follower_from l.count) with_follower) line l.many
          (followers_listed l.count l.many l.initial.variables line l.initial.reader.at) l.variables l.reader.at l.counter;
    }
