-- "A program prints the constant table from the step alone": each word from those before it. Definitions only.
use Rattle.std.specs.Prelude.{Bool, true, false, List, ℕ, ◌-◌, ◌/◌, ◌^◌, ltb, get_or}
use Rattle.xorshift.specs.Xorshift.{step_of}
use Rattle.jump.specs.Apply.{apply}
use Rattle.jump.specs.Jump.{row}

-- in the first table the draw of one bit, in a later one the table before it applied to its own word
unfoldable pub word_if : (first : Bool) → List ℕ → ℕ → ℕ
word_if true t at = step_of (2 ^ at)
word_if false t at = apply (row ((at - 64) / 64) t) (get_or t (at - 64) 0)

abbrev pub word_from : List ℕ → ℕ → ℕ
word_from t at = word_if (ltb at 64) t at
