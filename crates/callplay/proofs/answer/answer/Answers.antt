-- `callplay::answer::answer` meets its contract: turns are taken and dealt with as much scratch as the line says. Assumes nothing.
use Rattle.std.proofs.Common.{◌≡◌, ℕ, min, List, [], ◌∷◌, length, take, replicate, nat_lt, refl, sym, ap, ◌∙◌, subst, arith, Float}
use Rattle.std.proofs.lemmas.List.{take-replicate, length-replicate}
use Rattle.std.specs.Float.Ieee.{of_bits}
use Rattle.std.specs.Float.{binary64}
use Rattle.bench.specs.declared.types.Bench.{Bench}
use Rattle.bench.specs.Calls.{dealt_of, dealt_bench}
use Rattle.benchcalls.specs.Play.{Play, played_of}
use Rattle.streams.specs.declared.output.Output.{Output}
use Rattle.streams.specs.Output.{with_refused, Puts}
use Rattle.answers.specs.Lines.{counted}
use Rattle.callplay.specs.declared.call.Call.{Call}
use Rattle.callplay.specs.Answers.{call_texts}
use Rattle.callplay.specs.Calls.{bench_after, count_of, answer_texts}
use Rattle.callplay.proofs.answer.answer.Goals as goal

part : (to room n : ℕ) (x : Float) → to ≡ min room n → take to (replicate n x) ≡ replicate (min room n) x
part to room n x e = take-replicate to n x (omega (arith, e)) ∙ ap (λ (k : ℕ). replicate k x) e

-- an answer by another number, and by other numbers that are handed out, which are the same
told
    : (o : Output) {n : Output} (name : List ℕ) {number m : ℕ} {more rest : List ℕ}
    → number ≡ m
    → more ≡ rest
    → Puts (with_refused (nat_lt 0 number) o) (call_texts name number more) n
    → Puts (with_refused (nat_lt 0 m) o) (call_texts name m rest) n
told o {n} name e f p = subst (λ (k : ℕ × List ℕ). Puts (with_refused (nat_lt 0 k.0) o) (call_texts name k.0 k.1) n) (λ i. (e i, f i)) p

-- the call is the one that is matched
of_call
    : (o : Output) {n : Output} (b : Bench) {call k : Call}
    → call ≡ k
    → Puts (counted (count_of k b) o) (answer_texts k b) n
    → Puts (counted (count_of call b) o) (answer_texts call b) n
of_call o {n} b e p = subst (λ (k : Call). Puts (counted (count_of k b) o) (answer_texts k b) n) (sym e) p

pub returns-in-Admit-clause-answer : goal.returns-in-Admit-clause-answer
unfolding count_of answer_texts
returns-in-Admit-clause-answer c =
    let o = c.args.output.now in
    of_call o c.args.bench.now c.in-Admit.is (told o (65 ∷ []) (c.answered-number.ensures ∙ c.admit.ensures.0) refl c.put_answer.ensures)

pub returns-in-Turn : goal.returns-in-Turn
unfolding bench_after count_of answer_texts
returns-in-Turn c =
    let t = c.in-Turn in
    let o = c.args.output.now in
    let b = c.args.bench.now in
    let lent = part c.min-to.result t.room 1024 (of_bits binary64 0) c.min-to.ensures in
    let play = c.play_turns-played.ensures ∙ ap (played_of b t.place t.turns) lent in
    let number = c.answered-number-in-Turn.ensures ∙ ap (λ (p : Play). p.number) play in
    record {
      bench = ap (λ (p : Play). p.bench) play ∙ ap (λ (k : Call). bench_after k b) (sym t.is);
      answer = of_call o b t.is (told o (84 ∷ []) number (ap (λ (p : Play). p.taken ∷ []) play) c.put_answer-in-Turn.ensures);
    }

pub returns-in-Release-clause-answer : goal.returns-in-Release-clause-answer
unfolding count_of answer_texts
returns-in-Release-clause-answer c =
    let o = c.args.output.now in
    of_call o c.args.bench.now c.in-Release.is (told o (68 ∷ []) c.release-number.ensures.0 refl c.put_answer-in-Release.ensures)

pub returns-in-Deal-clause-answer : goal.returns-in-Deal-clause-answer
unfolding count_of answer_texts
returns-in-Deal-clause-answer c =
    let t = c.in-Deal in
    let o = c.args.output.now in
    let b = c.args.bench.now in
    let zero = of_bits binary64 0 in
    let long = ap length (part c.min-to-in-Deal.result t.room 1024 zero c.min-to-in-Deal.ensures) ∙ length-replicate (min t.room 1024) zero in
    let dealt = c.deal-dealt.ensures.0 ∙ ap (dealt_of b t.turns) long in
    let left = c.deal-dealt.ensures.1 ∙ ap (dealt_bench b t.turns) long in
    of_call o b t.is (told o (78 ∷ []) (λ i. (dealt i).number) (λ i. (dealt i).dealt ∷ (left i).next_place ∷ []) c.put_answer-in-Deal.ensures)
