-- `benchcalls::dealings::deal_turns`: where the dealing stands between two places.
use Rattle.dealing.specs.Standing.{Standing, measure}
use Rattle.benchcalls.proofs.dealings.deal_turns.Given as goal

abbrev pub invariant-loop-round : goal.invariant-loop-round
invariant-loop-round l = Standing l.fn.bench l.turns l.fn.scratch l.round l.bench l.scratch

abbrev pub decreases-loop-round : goal.decreases-loop-round
decreases-loop-round l = measure l.round
