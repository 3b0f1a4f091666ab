-- The first and the last words of an answer, as lists of texts. Definitions only.
use Rattle.std.specs.Prelude.{ℕ, Bool, cond, List, [], ◌∷◌, ◌++◌}
use Rattle.streams.specs.Output.{hex_text}
use Rattle.text.specs.Fields.{text_of}
use Rattle.text.specs.Words.{word_from}
use Rattle.answers.specs.Pieces.{number_texts}

-- a line's second word
abbrev pub id_text : List ℕ → List ℕ
id_text line = text_of line (word_from line (word_from line 0).to)

-- `R ` id kind
abbrev pub head_texts : List ℕ → ℕ → List (List ℕ)
head_texts line kind = (82 ∷ 32 ∷ []) ∷ number_texts (id_text line) kind

-- the line's end, after ` changed` where what was lent is not as it was
abbrev pub kept_text : Bool → List ℕ
kept_text kept = cond kept (10 ∷ []) (32 ∷ 99 ∷ 104 ∷ 97 ∷ 110 ∷ 103 ∷ 101 ∷ 100 ∷ 10 ∷ [])

-- ` refused ` number
abbrev pub refused_texts : ℕ → Bool → List (List ℕ)
refused_texts number kept = number_texts (32 ∷ 114 ∷ 101 ∷ 102 ∷ 117 ∷ 115 ∷ 101 ∷ 100 ∷ []) number ++ (kept_text kept ∷ [])

-- ` H ` and sixteen hexadecimal digits
abbrev pub digest_texts : ℕ → List (List ℕ)
digest_texts hash = (32 ∷ 72 ∷ 32 ∷ []) ∷ hex_text hash ∷ (10 ∷ []) ∷ []
