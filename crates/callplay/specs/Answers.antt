-- The answers to calls, as lists of texts. Definitions only.
use Rattle.std.specs.Prelude.{ℕ, List, [], ◌∷◌, ◌++◌, length}
use Rattle.merit.specs.Calls.{unless_refused}
use Rattle.runs.specs.Rows.{result_of}
use Rattle.runs.specs.declared.types.Row.{Row}
use Rattle.bench.specs.declared.types.Bench.{Bench}
use Rattle.bench.specs.Benches.{row_at}
use Rattle.bench.specs.Calls.{fetch_number, finished_places}
use Rattle.answers.specs.Entries.{all_texts}
use Rattle.answers.specs.Pieces.{number_texts, outcome_texts, lens_texts}

abbrev pub line_end : List (List ℕ)
line_end = (10 ∷ []) ∷ []

-- numbers, each after a blank
abbrev pub numbers_texts : List ℕ → List (List ℕ)
numbers_texts numbers = all_texts (number_texts []) numbers

-- name number {more}
abbrev pub call_texts : (name : List ℕ) → (number : ℕ) → (more : List ℕ) → List (List ℕ)
call_texts name number more = number_texts name number ++ numbers_texts more ++ line_end

-- what a finished row has come to, with as many surfaces and operands as its job has
abbrev pub result_texts : Row → List (List ℕ)
result_texts r = outcome_texts (result_of r) ++ lens_texts (result_of r) r.job.surface_count r.job.operand_count

-- F number result, which a refused fetch has not
abbrev pub fetch_texts : Bench → (place : ℕ) → List (List ℕ)
fetch_texts b place = number_texts (70 ∷ []) (fetch_number b place) ++ unless_refused (fetch_number b place) (result_texts (row_at b place)) [] ++ line_end

-- L count {place}, fewest working turns first
abbrev pub list_texts : Bench → List (List ℕ)
list_texts b = call_texts (76 ∷ []) (length (finished_places b)) (finished_places b)
