-- The lines of the input, answered one after the other by a program. Definitions only.
use Rattle.std.specs.Prelude.{◌≡◌, ℕ, ◌-◌, ◌^◌, ◌&&◌, min, Bool, true, false, List, [], ◌∷◌, length, Option, Some, None, Result, Ok, Err}
use Rattle.text.specs.declared.fields.Field.{Field}
use Rattle.text.specs.declared.reader.Wrong.{Wrong}
use Rattle.text.specs.Reader.{giving, end_from}
use Rattle.text.specs.Words.{none_left}
use Rattle.streams.specs.declared.console.Console.{Console}
use Rattle.streams.specs.declared.input.Input.{Input}
use Rattle.streams.specs.declared.input.Line.{Line}
use Rattle.streams.specs.declared.output.Output.{Output}
use Rattle.streams.specs.Input.{new_input, is_open, line_from, WentOn}
use Rattle.streams.specs.Output.{new_waiting, with_waiting, with_refused, with_unknown, Written, Puts}
use Rattle.streams.specs.Parts.{slice}
use Rattle.answers.specs.Pieces.{unknown_texts, cut_texts}

-- a field that ends its line
abbrev pub whole : {A : Type 0} → List ℕ → Result (Field A) Wrong → Result A Wrong
whole line (Ok f) = giving f.value (end_from line f.to)
whole line (Err w) = Err w

-- one line counted refused, or not, or none counted
abbrev pub counted : Option Bool → Output → Output
counted None o = o
counted (Some is_refused) o = with_refused is_refused o

-- whether a line is in form, or else where it is not and why
abbrev pub LineForm : Type 0
LineForm = List ℕ → Result (Unit {0}) Wrong

-- what the answer to a line of this number, which is in form, makes of a program and of the output
abbrev pub Giving : Type 0 → Type 1
Giving S = S → Output → (line : List ℕ) → (number : ℕ) → S → Output → Type 0

-- what waits is written, and nothing else changed
pub record Flushed (o n : Output) : Type 0 where
  pub written : Written (min o.waiting.bytes (length o.buffer.now)) o.waiting n.waiting
  pub same : n ≡ with_waiting n.waiting o

module _ {S : Type 0} (form : LineForm) (gives : Giving S) (p : S) (o : Output) where
  -- a line in form is answered by the program; of one that is not the answer says where and why, and the program is as it was
  abbrev pub Replied : Result (Unit {0}) Wrong → List ℕ → (number : ℕ) → S → Output → Type 0
  Replied (Ok done) line number q n = gives p o line number q n
  Replied (Err w) line number q n = (q ≡ p) × Puts (with_unknown o) (unknown_texts line number w) n

  -- blanks alone have no answer
  abbrev pub ReplyUnless : (blank : Bool) → List ℕ → (number : ℕ) → S → Output → Type 0
  ReplyUnless true line number q n = (q ≡ p) × (n ≡ o)
  ReplyUnless false line number q n = Replied (form line) line number q n

  abbrev pub LineAnswered : List ℕ → (number : ℕ) → S → Output → Type 0
  LineAnswered line number q n = ReplyUnless (none_left line 0) line number q n

  -- nor has the program a line that is too long for the buffer
  abbrev pub WholeOrCut : (is_cut : Bool) → List ℕ → (number : ℕ) → S → Output → Type 0
  WholeOrCut true line number q n = (q ≡ p) × Puts (with_unknown o) (cut_texts number) n
  WholeOrCut false line number q n = LineAnswered line number q n

  -- while no line is there, what waits is written
  abbrev pub FoundAnswered : Option Line → (buffer : List ℕ) → S → Output → Type 0
  FoundAnswered None buffer q n = (q ≡ p) × Flushed o n
  FoundAnswered (Some l) buffer q n = WholeOrCut l.is_cut (slice l.from l.to buffer) l.number q n

-- where the loop stands before a step
pub record Stand (S : Type 0) : Type 0 where
  pub program : S
  pub output : Output
  pub buffer : List ℕ
  pub input : Input

abbrev pub stand : {S : Type 0} → S → Output → (buffer : List ℕ) → Input → Stand S
stand p o b i = record { program = p; output = o; buffer = b; input = i }

-- steps one after the other, through `between`, of which the last comes first
abbrev pub Steps : {A : Type 0} (step : A → A → Type 0) → A → (between : List A) → A → Type 0
Steps step s [] t = s ≡ t
Steps step s (m ∷ before) t = Steps step s before m × step m t

module _ {S : Type 0} (form : LineForm) (gives : Giving S) where
  -- one step: the next line is answered, and the input goes on behind it, or by a read
  pub record Step (s t : Stand S) : Type 0 where
    pub answered : FoundAnswered form gives s.program s.output (line_from s.buffer s.input).line s.buffer t.program t.output
    pub went_on : WentOn s.buffer (line_from s.buffer s.input) t.buffer t.input

  -- it is taken while a line may come and no write failed
  pub record OpenStep (s t : Stand S) : Type 0 where
    pub goes_on : (is_open s.input && s.output.waiting.is_good) ≡ true
    pub step : Step s t

  -- The lines are answered by such steps alone: they end where no line may come any more, or where a write failed; and at a number of steps that no run
  -- reaches. What the reads bring, and whether a write fails, is the system's.
  pub record LinesAnswered (s t : Stand S) : Type 0 where
    pub between : List (Stand S)
    pub steps : Steps OpenStep s between t
    pub ended : (is_open t.input && t.output.waiting.is_good) ≡ true → length between ≡ 2 ^ 64 - 1

  -- All lines, from an input of which nothing is read on and an output to this console in which nothing waits; then comes what `sums` says.
  pub record AllAnswered (sums : S → Output → Output → Type 0) (console : Console) (p q : S) : Type 0 where
    pub first : Stand S
    pub last : Stand S
    pub summed : Output
    pub begun : (first.program ≡ p) × (first.output.waiting ≡ new_waiting) × (first.input ≡ new_input)
    pub goes : first.output.console ≡ console
    pub lines : LinesAnswered first last
    pub sum : sums last.program last.output summed
    pub left : q ≡ last.program
