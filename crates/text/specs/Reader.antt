-- A line read field by field. Definitions only.
use Rattle.std.specs.Prelude.{◌≡◌, Bool, cond, List, [], ◌∷◌, length, replicate, ℕ, zero, suc, eqb, Float, Option, Some, None, option_map, Result, Ok, Err}
use Rattle.std.specs.Float.Ieee.{of_bits}
use Rattle.std.specs.Float.{binary64}
use Rattle.text.specs.declared.reader.Reader.{Reader}
use Rattle.text.specs.declared.reader.Why.{Why}
use Rattle.text.specs.declared.reader.Why.TheVariants.{TooMany, NoNumber, NoHex, Another}
use Rattle.text.specs.declared.reader.Wrong.{Wrong}
use Rattle.text.specs.declared.fields.Field.{Field}
use Rattle.text.specs.Fields.{text_of, field_of, number_field, float_of}
use Rattle.text.specs.Words.{between, word_from, none_left, same_text}

-- what stands from `at` on is out of form
abbrev pub wrong : {A : Type 0} → Why → (at : ℕ) → Result A Wrong
wrong why at = Err (record { at = at; why = why })

-- a field, where one in form stands
abbrev pub field_or : {A : Type 0} → Why → (at : ℕ) → Option (Field A) → Result (Field A) Wrong
field_or why at (Some f) = Ok f
field_or why at None = wrong why at

-- one read after another: the line goes on where the field before ends, and nothing is read of one that is out of form
abbrev pub then : {A B : Type 0} → Result (Field A) Wrong → (Field A → Result (Field B) Wrong) → Result (Field B) Wrong
then (Ok f) more = more f
then (Err w) more = Err w

-- a number in a base from `at` on, and one in decimal
abbrev pub number_from : (base : ℕ) → List ℕ → ℕ → Result (Field ℕ) Wrong
number_from base line at = field_or (cond (eqb base 16) NoHex NoNumber) at (number_field base line at)

abbrev pub decimal_from : List ℕ → ℕ → Result (Field ℕ) Wrong
decimal_from line at = number_from 10 line at

-- one from `low` to `high`: where it is any other, the line is out of form there
abbrev pub within_from : (low high : ℕ) → Why → List ℕ → ℕ → Result (Field ℕ) Wrong
within_from low high why line at = then (decimal_from line at) (λ f. cond (between low high f.value) (Ok f) (wrong why at))

-- a float, by its bits in hexadecimal
abbrev pub float_from : List ℕ → ℕ → Result (Field Float) Wrong
float_from line at = field_or NoHex at (option_map float_of (number_field 16 line at))

-- past so many floats
unfoldable pub past_floats : (n : ℕ) → List ℕ → ℕ → Result (Field (Unit {0})) Wrong
past_floats zero line at = Ok (field_of at tt)
past_floats (suc n) line at = then (float_from line at) (λ x. past_floats n line x.to)

-- a row over whose first number a float is put, where one in form stands, and over the others `more`
abbrev pub put_over : (old : Float) → (row : List Float) → (more : ℕ → List Float) → Result (Field Float) Wrong → List Float
put_over old row more (Ok x) = x.value ∷ more x.to
put_over old row more (Err w) = old ∷ row

-- a row with the floats from `at` on, up to the first that is out of form
unfoldable pub floats_over : List ℕ → ℕ → List Float → List Float
floats_over line at [] = []
floats_over line at (old ∷ row) = put_over old row (λ to. floats_over line to row) (float_from line at)

-- the same, but where none in form stands, +0.0 over all of them
abbrev pub put_or_zeros : (row : List Float) → (more : ℕ → List Float) → Result (Field Float) Wrong → List Float
put_or_zeros row more (Ok x) = x.value ∷ more x.to
put_or_zeros row more (Err w) = replicate (suc (length row)) (of_bits binary64 0)

-- a row with the floats from `at` on; from the first that is out of form on, +0.0
unfoldable pub floats_or_zeros : List ℕ → ℕ → List Float → List Float
floats_or_zeros line at [] = []
floats_or_zeros line at (old ∷ row) = put_or_zeros row (λ to. floats_or_zeros line to row) (float_from line at)

-- whether the next word is this one
abbrev pub begins_with : List ℕ → ℕ → List ℕ → Bool
begins_with line at name = same_text (text_of line (word_from line at)) name

-- past the next word, whatever it is
abbrev pub past_word : List ℕ → ℕ → ℕ
past_word line at = (word_from line at).to

-- past the next word, which has to be this one
abbrev pub tag_from : (name : List ℕ) → List ℕ → ℕ → Result (Field (Unit {0})) Wrong
tag_from name line at = cond (begins_with line at name) (Ok (field_of (past_word line at) tt)) (wrong Another at)

-- all fields were in form, and no word is left
abbrev pub end_from : List ℕ → ℕ → Result (Unit {0}) Wrong
end_from line at = cond (none_left line at) (Ok tt) (wrong TooMany at)

-- the same reader moved on
abbrev pub moved_to : (to : ℕ) → Reader → Reader
moved_to to r = record { line = r.line; at = to }

-- what came of a read that left the reader at `to`
abbrev pub came : {A : Type 0} → Result A Wrong → (to : ℕ) → Result (Field A) Wrong
came (Ok x) to = Ok (field_of to x)
came (Err w) to = Err w

-- the same answer of another value
abbrev pub giving : {A B : Type 0} → A → Result B Wrong → Result A Wrong
giving x (Ok y) = Ok x
giving x (Err w) = Err w

-- where a read leaves a reader: behind the field; after one out of form the reader stays before it
abbrev pub left_at : {A : Type 0} → Result (Field A) Wrong → ℕ
left_at (Ok f) = f.to
left_at (Err w) = w.at

-- a read from where a reader stands: it answers what the line has there, and leaves the reader behind it, or before what is out of form
pub record Reads {A : Type 0} (from : List ℕ → ℕ → Result (Field A) Wrong) (r : Reader) (result : Result A Wrong) (n : Reader) : Type 0 where
  pub value : came result n.at ≡ from r.line.now r.at
  pub left : n.at ≡ left_at (from r.line.now r.at)
  pub same : n.line ≡ r.line
