-- The last line of every output. Definitions only.
use Rattle.std.specs.Prelude.{ℕ, List, [], ◌∷◌, ◌++◌}
use Rattle.streams.specs.declared.output.Waiting.{Waiting}
use Rattle.streams.specs.Output.{decimal_text}

-- `end `, ` lines, `, ` refused, ` and ` out of form` with its line feed
abbrev pub end_word : List ℕ
end_word = 101 ∷ 110 ∷ 100 ∷ 32 ∷ []

abbrev pub lines_word : List ℕ
lines_word = 32 ∷ 108 ∷ 105 ∷ 110 ∷ 101 ∷ 115 ∷ 44 ∷ 32 ∷ []

abbrev pub refused_word : List ℕ
refused_word = 32 ∷ 114 ∷ 101 ∷ 102 ∷ 117 ∷ 115 ∷ 101 ∷ 100 ∷ 44 ∷ 32 ∷ []

abbrev pub unknown_word : List ℕ
unknown_word = 32 ∷ 111 ∷ 117 ∷ 116 ∷ 32 ∷ 111 ∷ 102 ∷ 32 ∷ 102 ∷ 111 ∷ 114 ∷ 109 ∷ 10 ∷ []

abbrev pub count_texts : ℕ → List ℕ → List (List ℕ)
count_texts count name = decimal_text count ∷ name ∷ []

-- `end N lines, M refused, K out of form`
abbrev pub end_texts : (lines : ℕ) → Waiting → List (List ℕ)
end_texts lines w = (end_word ∷ count_texts lines lines_word) ++ count_texts w.refused refused_word ++ count_texts w.unknown unknown_word
