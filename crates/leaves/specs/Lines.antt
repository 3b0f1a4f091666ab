-- The lines of the program. Definitions only.
use Rattle.std.specs.Prelude.{◌≡◌, ℕ, ◌+◌, ◌*◌, cond, List, [], ◌∷◌, ◌++◌, length, Result, Ok, Err, IfOk, Float}
use Rattle.std.specs.Float.Ieee.{le}
use Rattle.text.specs.declared.reader.Reader.{Reader}
use Rattle.text.specs.declared.reader.Why.TheVariants.{Range}
use Rattle.text.specs.declared.reader.Wrong.{Wrong}
use Rattle.text.specs.Fields.{text_of, field_of}
use Rattle.text.specs.Reader.{wrong, then, number_from, decimal_from, within_from, float_from, past_floats, past_word, giving}
use Rattle.text.specs.Words.{word_from}
use Rattle.streams.specs.declared.output.Output.{Output}
use Rattle.streams.specs.Output.{Puts, float_texts}
use Rattle.answers.specs.Lines.{whole}
use Rattle.leaves.specs.declared.Leaves.{Leaves}
use Rattle.leaves.specs.declared.leaf.Reply.{Reply}
use Rattle.leaves.specs.declared.names.Leaf.{Leaf}
use Rattle.leaves.specs.declared.names.Leaf.TheVariants.{Exp, Sqrt, Abs, Draw, Jump, Uniform, Clamp}
use Rattle.leaves.specs.declared.names.Name.{Name}
use Rattle.leaves.specs.declared.names.Name.TheVariants as names
use Rattle.leaves.specs.Names.{name_of}
use Rattle.leaves.specs.Replies.{Sort, sort_of, Answer, answer_texts, IsReply, IsSolution, IsEquations}

-- what a line is, from where its name ends on
abbrev pub Rest : Type 0
Rest = List ℕ → (at : ℕ) → Result (Unit {0}) Wrong

-- E x, SQRT x, ABS x
abbrev pub one_number : Rest
one_number line at = whole line (then (float_from line at) (λ x. Ok (field_of x.to tt)))

-- DRAW seed n
abbrev pub seed_and_count : Rest
seed_and_count line at = whole line (then (number_from 16 line at) (λ seed. then (decimal_from line seed.to) (λ n. Ok (field_of n.to tt))))

-- JUMP state n
abbrev pub two_in_hex : Rest
two_in_hex line at = whole line (then (number_from 16 line at) (λ state. then (number_from 16 line state.to) (λ n. Ok (field_of n.to tt))))

-- UNIFORM seed a b
abbrev pub seed_and_two : Rest
seed_and_two line at =
    whole line
    (then (number_from 16 line at) (λ seed.
    then (float_from line seed.to) (λ a.
    then (float_from line a.to) (λ b.
    Ok (field_of b.to tt)))))

-- of bounds that are crossed, or that no order holds of, the upper is out of form; it is looked at once all is read
abbrev pub uncrossed : Result (Result (Unit {0}) Wrong) Wrong → Result (Unit {0}) Wrong
uncrossed (Ok bounds) = bounds
uncrossed (Err w) = Err w

-- CLAMP x lo hi
abbrev pub with_bounds : Rest
with_bounds line at =
    uncrossed (whole line
    (then (float_from line at) (λ x.
    then (float_from line x.to) (λ lo.
    then (float_from line lo.to) (λ hi.
    Ok (field_of hi.to (cond (le lo.value hi.value) (Ok tt) (wrong Range lo.to))))))))

unfoldable pub leaf_rest : Leaf → Rest
leaf_rest Exp = one_number
leaf_rest Sqrt = one_number
leaf_rest Abs = one_number
leaf_rest Draw = seed_and_count
leaf_rest Jump = two_in_hex
leaf_rest Uniform = seed_and_two
leaf_rest Clamp = with_bounds

-- SOLVE p {entries by rows} {right side}
abbrev pub solve_rest : Rest
solve_rest line at = whole line (then (within_from 1 8 Range line at) (λ p. past_floats (p.value * p.value + p.value) line p.to))

-- NORMAL m p {entries by columns} {residuals}
abbrev pub normal_rest : Rest
normal_rest line at =
    whole line
    (then (within_from 1 12 Range line at) (λ m.
    then (within_from 1 8 Range line m.to) (λ p.
    then (past_floats (p.value * m.value) line p.to) (λ columns.
    past_floats m.value line columns.to))))

-- behind a name
abbrev pub named : Result Name Wrong → Rest
named (Ok (names.Leaf leaf)) = leaf_rest leaf
named (Ok names.Solve) = solve_rest
named (Ok names.Normal) = normal_rest
named (Err w) = λ line at. Err w

abbrev pub line_form : List ℕ → Result (Unit {0}) Wrong
line_form line = named (name_of (text_of line (word_from line 0))) line (past_word line 0)

-- what is read of a line by such a rest of it: a reply of that sort where it is in form; the reader keeps the line
pub record ReadAs (rest : Rest) (sort : Sort) (r : Reader) (result : Result Reply Wrong) (n : Reader) : Type 0 where
  pub value : giving tt result ≡ rest r.line.now r.at
  pub sort_is : IfOk result (λ reply. sort_of reply ≡ sort)
  pub same : n.line ≡ r.line

-- the line as it stands, and ` =`
abbrev pub line_texts : List ℕ → List (List ℕ)
line_texts line = line ∷ (32 ∷ 61 ∷ []) ∷ []

-- what may be answered to a line, from where its name ends on
abbrev pub Choice : Type 1
Choice = List ℕ → (at : ℕ) → Answer → Type 0

-- SOLVE p ..
abbrev pub solve_choice : Choice
solve_choice line at answer = IfOk (within_from 1 8 Range line at) (λ p. IsSolution p.value answer)

-- NORMAL m p ..
abbrev pub normal_choice : Choice
normal_choice line at answer = IfOk (within_from 1 12 Range line at) (λ m. IfOk (within_from 1 8 Range line m.to) (λ p. IsEquations p.value answer))

-- behind a name
abbrev pub named_choice : Result Name Wrong → Choice
named_choice (Ok (names.Leaf leaf)) = λ line at. IsReply leaf
named_choice (Ok names.Solve) = solve_choice
named_choice (Ok names.Normal) = normal_choice
named_choice (Err w) = λ line at answer. ⊥

abbrev pub line_choice : List ℕ → Answer → Type 0
line_choice line = named_choice (name_of (text_of line (word_from line 0))) line (past_word line 0)

-- a row of so many numbers is put, and nothing else
pub record PutsRow (count : ℕ) (o n : Output) : Type 0 where
  pub row : List Float
  pub long : length row ≡ count
  pub puts : Puts o (float_texts row) n

-- these texts are put, one of these answers behind them, and nothing else; no line is counted
pub record Answers (head : List (List ℕ)) (MayBe : Answer → Type 0) (o n : Output) : Type 0 where
  pub answer : Answer
  pub is : MayBe answer
  pub puts : Puts o (head ++ answer_texts answer) n

-- nothing is kept, and the line is put with its answer
abbrev pub Answered : Leaves → Output → (line : List ℕ) → (number : ℕ) → Leaves → Output → Type 0
Answered p o line number q n = (q ≡ p) × Answers (line_texts line) (line_choice line) o n
