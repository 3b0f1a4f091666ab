-- What is printed of the tally. Definitions only.
use Rattle.std.specs.Prelude.{ℕ, List, [], ◌∷◌, ◌++◌}
use Rattle.std.specs.List.{zip}
use Rattle.answers.specs.Entries.{all_texts}
use Rattle.answers.specs.Pieces.{number_texts}
use Rattle.damage.specs.declared.entries.Entry.{Entry}
use Rattle.damage.specs.declared.entries.TheConstants.{ENTRIES}
use Rattle.damage.specs.declared.tally.Count.{Count}

-- a name and its two numbers
abbrev pub line_texts : (name : List ℕ) → Count → List (List ℕ)
line_texts name count = number_texts name count.tried ++ number_texts [] count.right ++ ((10 ∷ []) ∷ [])

abbrev pub entry_texts : Entry × Count → List (List ℕ)
entry_texts p = line_texts p.0.name p.1

-- a line for each entry, in their order
abbrev pub tally_texts : List Count → List (List ℕ)
tally_texts tally = all_texts entry_texts (zip ENTRIES tally)
