-- `replay::Replay::answer_job` meets its contract: the head comes first, and only a run moves the bench. Assumes nothing.
use Rattle.std.proofs.Common.{◌≡◌, ℕ, List, Bor, refl, sym, ap, subst, arith}
use Rattle.std.proofs.lemmas.Bool.Decides.{nat_tests}
use Rattle.std.proofs.lemmas.Result.{on_ok_weaker}
use Rattle.streams.specs.declared.output.Output.{Output}
use Rattle.streams.specs.OutputLaws.{puts_as}
use Rattle.answers.specs.Heads.{head_texts}
use Rattle.replay.specs.declared.Replay.{Replay}
use Rattle.replay.specs.Lines.{Done}
use Rattle.replay.specs.Moves.{stays}
use Rattle.replay.specs.Replies.{Tells}
use Rattle.replay.proofs.Tells.{tells_behind}
use Rattle.replay.proofs.Replay.answer_job.Goals as goal

-- nothing is played
unplayed : {k kind : ℕ} {o n : Output} {line : List ℕ} (p : Replay) → kind ≡ k → Tells (head_texts line k) o n → Done kind p o line p n
unplayed {o = o} {n = n} {line = line} p e a = record {
  answer = subst (λ (k : ℕ). Tells (head_texts line k) o n) (sym e) a;
  moved = stays p.bench;
  alone = λ h. refl;
}

pub returns-in-4-clause-ok : goal.returns-in-4-clause-ok
returns-in-4-clause-ok c = on_ok_weaker c.answer.result (λ d. unplayed c.args.self.now c.in-4.is d) c.answer.ensures.ok

pub returns-in-5-clause-ok : goal.returns-in-5-clause-ok
returns-in-5-clause-ok c = on_ok_weaker c.answer-in-5.result (λ d. unplayed c.args.self.now c.in-5.is d) c.answer-in-5.ensures.ok

pub returns-in-6-clause-ok : goal.returns-in-6-clause-ok
returns-in-6-clause-ok c = on_ok_weaker c.answer-in-6.result (λ d. unplayed c.args.self.now c.in-6.is d) c.answer-in-6.ensures.ok

pub returns-in_ok-end-in_default-clause-ok : goal.returns-in_ok-end-in_default-clause-ok
returns-in_ok-end-in_default-clause-ok c =
    let a = c.args in
    let head = puts_as (ap (λ (line : Bor (List ℕ)). head_texts line.now a.kind) c.read_request.ensures.same) c.put_head.ensures in
    record {
      answer = tells_behind head c.answer-in_default.ensures.answer;
      moved = c.answer-in_default.ensures.moved;
      alone = λ h. absurd (grind (arith, nat_tests));
    }
