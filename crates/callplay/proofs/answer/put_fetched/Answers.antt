-- `callplay::answer::put_fetched` meets its contract: its texts come one after the other, and a place that is fetched from is one of four. Assumes nothing.
use Rattle.std.proofs.Common.{◌≡◌, ℕ, zero, suc, ◌%◌, ◌<◌, ◌≤◌, List, [], ◌∷◌, ◌++◌, nat_lt, refl, sym, ap, ◌∙◌, subst, arith, lt_irrefl}
use Rattle.merit.specs.Calls.{unless_refused}
use Rattle.runs.specs.Rows.{result_of}
use Rattle.runs.specs.Zeros.{zero_result}
use Rattle.held.specs.JobFrom.{surface_count_from, operand_count_from}
use Rattle.bench.specs.declared.types.Bench.{Bench}
use Rattle.bench.specs.Benches.{held_at, row_at}
use Rattle.bench.specs.Calls.{fetch_number}
use Rattle.benchcalls.specs.Placed.{fetch-past}
use Rattle.streams.specs.declared.output.Output.{Output}
use Rattle.streams.specs.Output.{with_refused, Puts}
use Rattle.streams.specs.OutputLaws.{puts_then, puts_as}
use Rattle.answers.specs.Pieces.{number_texts, outcome_texts, lens_texts}
use Rattle.callplay.specs.Answers.{line_end, result_texts, fetch_texts}
use Rattle.callplay.proofs.answer.put_fetched.Goals as goal

module _ (b : Bench) (place : ℕ) where
  -- the answer, with another number in the place of the fetch's
  abbrev texts_by : (number : ℕ) → List (List ℕ)
  texts_by number = number_texts (70 ∷ []) number ++ unless_refused number (result_texts (row_at b place)) [] ++ line_end

  -- that number is the fetch's
  told : (o : Output) {n : Output} (number : ℕ) → number ≡ fetch_number b place → Puts (with_refused (nat_lt 0 number) o) (texts_by number) n
      → Puts (with_refused (nat_lt 0 (fetch_number b place)) o) (fetch_texts b place) n
  told o {n} number e p = subst (λ (k : ℕ). Puts (with_refused (nat_lt 0 k) o) (texts_by k) n) e p

  -- none is fetched from a place past the last
  placed : fetch_number b place ≡ 0 → place ≤ 3
  placed e =
      let past : 3 < place → 2 ≡ fetch_number b place = λ h. (fetch-past b place h zero_result).0 in
      grind (arith, e, past)

-- a refused fetch hands nothing out
nothing-out : {A : Type 0} (number : ℕ) (result nothing : A) → 0 < number → nothing ≡ unless_refused number result nothing
nothing-out zero result nothing h = absurd (lt_irrefl 0 h)
nothing-out (suc number) result nothing h = refl

pub returns-then-number-gt0 : goal.returns-then-number-gt0
returns-then-number-gt0 c =
    let b = c.args.bench.now in
    let place = c.args.place in
    let number = c.fetch-number.result in
    let result = nothing-out number (result_texts (row_at b place)) [] c.if-number-gt0.true in
    told b place c.args.output.now number c.fetch-number.ensures.0
    (puts_as (ap (λ (t : List (List ℕ)). number_texts (70 ∷ []) number ++ t ++ line_end) result) (puts_then c.put_name.ensures c.end_line.ensures))

pub returns : goal.returns
returns c =
    let b = c.args.bench.now in
    let place = c.args.place in
    let r = row_at b place in
    let number = c.fetch-number.result in
    let none : number ≡ 0 = omega arith in
    let done = sym c.fetch-number.ensures.0 ∙ none in
    let found = c.fetch-number.ensures.1 ∙ ap (λ (k : ℕ). unless_refused k (result_of r) c.zero_result-found.result) done in
    let there = placed b place done in
    let same : place % 4 ≡ place = omega arith in
    let counts = c.lent-job.ensures.counts ∙ ap (λ (p : ℕ). (held_at b p).job.counts) same in
    let surfaces = c.surface_count-surfaces.ensures ∙ ap surface_count_from counts in
    let operands = c.operand_count-operands.ensures ∙ ap operand_count_from counts in
    let outcome = puts_as (ap outcome_texts found) c.put_outcome.ensures in
    let lens = puts_as (λ i. lens_texts (found i) (surfaces i) (operands i)) c.put_lens.ensures in
    let texts = ap (λ (k : ℕ). number_texts (70 ∷ []) number ++ unless_refused k (result_texts r) [] ++ line_end) (sym none) in
    told b place c.args.output.now number c.fetch-number.ensures.0
    (puts_as texts (puts_then (puts_then c.put_name.ensures (puts_then outcome lens)) c.end_line-2.ensures))
