-- The fields of a line. Definitions only.
use Rattle.std.specs.Prelude.{ℕ, ◌-◌, List, take, drop, Float, Option, option_map}
use Rattle.std.specs.Float.Ieee.{of_bits}
use Rattle.std.specs.Float.{binary64}
use Rattle.text.specs.declared.words.Word.{Word}
use Rattle.text.specs.declared.fields.Field.{Field}
use Rattle.text.specs.Words.{word_from}
use Rattle.text.specs.Numbers.{number_of}

abbrev pub text_of : List ℕ → Word → List ℕ
text_of line w = take (w.to - w.from) (drop w.from line)

-- a value that ends at `to`
abbrev pub field_of : {A : Type 0} → ℕ → A → Field A
field_of to x = record { value = x; to = to }

-- the next word as a number in a base, and where it ends
abbrev pub number_field : ℕ → List ℕ → ℕ → Option (Field ℕ)
number_field base line at = let w = word_from line at in option_map (field_of w.to) (number_of base (text_of line w))

-- the float of a field that gives its bits
abbrev pub float_of : Field ℕ → Field Float
float_of bits = record { value = of_bits binary64 bits.value; to = bits.to }
