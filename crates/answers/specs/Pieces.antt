-- Pieces of answers, each a list of texts. Definitions only.
use Rattle.std.specs.Prelude.{ℕ, ◌+◌, ◌%◌, ◌^◌, min, cond, List, [], ◌∷◌, ◌++◌, take, Float}
use Rattle.optics.specs.declared.types.OpticalSurface.{OpticalSurface}
use Rattle.runs.specs.declared.types.OptimizationResult.{OptimizationResult}
use Rattle.text.specs.declared.reader.Why.{Why}
use Rattle.text.specs.declared.reader.Wrong.{Wrong}
use Rattle.text.specs.declared.reader.Why.TheVariants.{TooMany, NoNumber, NoHex, Another, Kind, Range}
use Rattle.streams.specs.Output.{blank, decimal_text, float_texts}
use Rattle.text.specs.Words.{none_left, words_before}
use Rattle.answers.specs.Entries.{all_texts, surface_texts}

abbrev pub number_texts : List ℕ → ℕ → List (List ℕ)
number_texts name number = name ∷ blank ∷ decimal_text number ∷ []

-- what is wrong with a word: `too many`, `no number`, `not 16 hex digits`, `another word`, `kind unknown`, `out of range`
unfoldable pub wrong_text : Why → List ℕ
wrong_text TooMany = 116 ∷ 111 ∷ 111 ∷ 32 ∷ 109 ∷ 97 ∷ 110 ∷ 121 ∷ 10 ∷ []
wrong_text NoNumber = 110 ∷ 111 ∷ 32 ∷ 110 ∷ 117 ∷ 109 ∷ 98 ∷ 101 ∷ 114 ∷ 10 ∷ []
wrong_text NoHex = 110 ∷ 111 ∷ 116 ∷ 32 ∷ 49 ∷ 54 ∷ 32 ∷ 104 ∷ 101 ∷ 120 ∷ 32 ∷ 100 ∷ 105 ∷ 103 ∷ 105 ∷ 116 ∷ 115 ∷ 10 ∷ []
wrong_text Another = 97 ∷ 110 ∷ 111 ∷ 116 ∷ 104 ∷ 101 ∷ 114 ∷ 32 ∷ 119 ∷ 111 ∷ 114 ∷ 100 ∷ 10 ∷ []
wrong_text Kind = 107 ∷ 105 ∷ 110 ∷ 100 ∷ 32 ∷ 117 ∷ 110 ∷ 107 ∷ 110 ∷ 111 ∷ 119 ∷ 110 ∷ 10 ∷ []
wrong_text Range = 111 ∷ 117 ∷ 116 ∷ 32 ∷ 111 ∷ 102 ∷ 32 ∷ 114 ∷ 97 ∷ 110 ∷ 103 ∷ 101 ∷ 10 ∷ []

abbrev pub missing_text : List ℕ
missing_text = 109 ∷ 105 ∷ 115 ∷ 115 ∷ 105 ∷ 110 ∷ 103 ∷ 10 ∷ []

-- `missing` where no word is left for the field, and else what is wrong with it
abbrev pub fault_text : List ℕ → Wrong → List ℕ
fault_text line w = cond (none_left line w.at) missing_text (wrong_text w.why)

-- `? ` and the line's number, ` field `, the number of the word that is out of form, from 1, and what is wrong with it
abbrev pub unknown_texts : List ℕ → (number : ℕ) → Wrong → List (List ℕ)
unknown_texts line number w =
    number_texts (63 ∷ []) number ++ number_texts (32 ∷ 102 ∷ 105 ∷ 101 ∷ 108 ∷ 100 ∷ []) ((words_before line w.at + 1) % 2 ^ 64)
    ++ ((58 ∷ 32 ∷ []) ∷ fault_text line w ∷ [])

-- `? `, the line's number and ` too long`
abbrev pub cut_texts : ℕ → List (List ℕ)
cut_texts number = number_texts (63 ∷ []) number ++ ((32 ∷ 116 ∷ 111 ∷ 111 ∷ 32 ∷ 108 ∷ 111 ∷ 110 ∷ 103 ∷ 10 ∷ []) ∷ [])

-- a name, a count, and as many of a row's floats as there are
abbrev pub row_texts : List ℕ → List Float → ℕ → List (List ℕ)
row_texts name row count = number_texts name count ++ float_texts (take (min count 12) row)

-- a blank and a letter
abbrev pub mark : ℕ → List ℕ
mark letter = 32 ∷ letter ∷ []

-- ` M` first final ` N ` iterations converged
abbrev pub outcome_texts : OptimizationResult → List (List ℕ)
outcome_texts result =
    (mark 77 ∷ float_texts (result.initial_merit ∷ result.final_merit ∷ []))
    ++ number_texts (mark 78) result.iterations ++ number_texts [] result.converged

-- the first n surfaces
abbrev pub surfaces_texts : List OpticalSurface → ℕ → List (List ℕ)
surfaces_texts surfaces n = all_texts surface_texts (take n surfaces)

-- ` S ` n {surface} ` V ` m {values} ` D ` m {residuals}
abbrev pub lens_texts : OptimizationResult → ℕ → ℕ → List (List ℕ)
lens_texts result n m =
    number_texts (mark 83) n ++ surfaces_texts result.surfaces (min n 16)
    ++ row_texts (mark 86) result.values m ++ row_texts (mark 68) result.residuals m
