-- Rows of numbers put one after the other, and answers behind texts. Assumes nothing.
use Rattle.std.proofs.Common.{◌≡◌, ℕ, ◌+◌, ◌-◌, ◌≤◌, List, [], ◌++◌, length, take, drop, Float, Result, Ok, IfOk}
use Rattle.std.proofs.Common.{refl, sym, ap, ◌∙◌, subst, arith, length-append, length-drop}
use Rattle.std.proofs.lemmas.List.{length-take-le}
use Rattle.text.specs.declared.fields.Field.{Field}
use Rattle.text.specs.declared.reader.Wrong.{Wrong}
use Rattle.text.specs.Fields.{field_of}
use Rattle.text.specs.Reader.{came}
use Rattle.streams.specs.declared.output.Output.{Output}
use Rattle.streams.specs.Output.{Puts, float_texts, clipped, with_waiting}
use Rattle.streams.specs.OutputLaws.{puts_then, puts_as, puts_clipped, floats-append}
use Rattle.leaves.specs.Lines.{PutsRow, Answers}
use Rattle.leaves.specs.Replies.{Answer, numbers, line_end}

-- so many numbers from a place on
pub part_long : (at p : ℕ) (xs : List Float) → at + p ≤ length xs → length (take (at + p - at) (drop at xs)) ≡ p
part_long at p xs h =
    let long = length-drop at xs in
    let is : at + p - at ≡ p = omega arith in
    length-take-le (at + p - at) (drop at xs) (omega (arith, long, h)) ∙ is

-- no number yet
pub no_row : {o n : Output} → n ≡ with_waiting (clipped (length o.buffer.now) o.waiting) o → PutsRow 0 o n
unfolding float_texts
no_row e = record { row = []; long = refl; puts = puts_clipped e }

pub row_as : {o n : Output} {j k : ℕ} → j ≡ k → PutsRow j o n → PutsRow k o n
row_as e a = record { row = a.row; long = a.long ∙ e; puts = a.puts }

-- a row, and more numbers behind it
pub row_then : {o m n : Output} {k : ℕ} (more : List Float) → PutsRow k o m → Puts m (float_texts more) n → PutsRow (k + length more) o n
row_then {k = k} more a p = record {
  row = a.row ++ more;
  long = length-append a.row more ∙ ap (λ (j : ℕ). j + length more) a.long;
  puts = puts_as (sym (floats-append a.row more)) (puts_then a.puts p);
}

pub rows_then : {o m n : Output} {j k : ℕ} → PutsRow j o m → PutsRow k m n → PutsRow (j + k) o n
rows_then {j = j} a b = row_as (ap (λ (k : ℕ). j + k) b.long) (row_then b.row a b.puts)

-- a row is an answer, once the line is ended
pub row_ended : {P : Answer → Type 0} {o m n : Output} {k : ℕ} (a : PutsRow k o m) → P (numbers a.row) → Puts m line_end n → Answers [] P o n
row_ended a is p = record { answer = numbers a.row; is = is; puts = puts_then a.puts p }

-- texts, and behind them an answer, which may be one of other answers too
pub answers_behind
    : {head : List (List ℕ)} {P Q : Answer → Type 0} {o m n : Output}
    → ((answer : Answer) → P answer → Q answer)
    → Puts o head m
    → Answers [] P m n
    → Answers head Q o n
answers_behind f p a = record { answer = a.answer; is = f a.answer a.is; puts = puts_then p a.puts }

-- what holds of a value that was read holds of what the line has there
pub of_read
    : {A : Type 0} {there : Result (Field A) Wrong} {x : A} {to : ℕ} (P : Field A → Type 0)
    → came (Ok x) to ≡ there
    → P (field_of to x)
    → IfOk there P
of_read P e h = subst (λ (r : Result (Field _) Wrong). IfOk r P) e h
