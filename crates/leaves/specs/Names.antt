-- The names of lines. Definitions only.
use Rattle.std.specs.Prelude.{ℕ, cond, List, [], ◌∷◌, Result, Ok}
use Rattle.std.specs.Str.{bytes_eq}
use Rattle.text.specs.declared.reader.Why.TheVariants.{Kind}
use Rattle.text.specs.declared.reader.Wrong.{Wrong}
use Rattle.text.specs.Reader.{wrong}
use Rattle.leaves.specs.declared.names.Name.{Name}
use Rattle.leaves.specs.declared.names.Name.TheVariants as names
use Rattle.leaves.specs.declared.names.Leaf.TheVariants.{Exp, Sqrt, Abs, Draw, Jump, Uniform, Clamp}

-- `E`, `SQRT`, `ABS`, `DRAW`, `JUMP`, `UNIFORM`, `CLAMP`, `SOLVE`, `NORMAL`; a line of any other name is out of form at its first word
unfoldable pub name_of : List ℕ → Result Name Wrong
name_of word =
    cond (bytes_eq word (69 ∷ [])) (Ok (names.Leaf Exp))
    (cond (bytes_eq word (83 ∷ 81 ∷ 82 ∷ 84 ∷ [])) (Ok (names.Leaf Sqrt))
    (cond (bytes_eq word (65 ∷ 66 ∷ 83 ∷ [])) (Ok (names.Leaf Abs))
    (cond (bytes_eq word (68 ∷ 82 ∷ 65 ∷ 87 ∷ [])) (Ok (names.Leaf Draw))
    (cond (bytes_eq word (74 ∷ 85 ∷ 77 ∷ 80 ∷ [])) (Ok (names.Leaf Jump))
    (cond (bytes_eq word (85 ∷ 78 ∷ 73 ∷ 70 ∷ 79 ∷ 82 ∷ 77 ∷ [])) (Ok (names.Leaf Uniform))
    (cond (bytes_eq word (67 ∷ 76 ∷ 65 ∷ 77 ∷ 80 ∷ [])) (Ok (names.Leaf Clamp))
    (cond (bytes_eq word (83 ∷ 79 ∷ 76 ∷ 86 ∷ 69 ∷ [])) (Ok names.Solve)
    (cond (bytes_eq word (78 ∷ 79 ∷ 82 ∷ 77 ∷ 65 ∷ 76 ∷ [])) (Ok names.Normal) (wrong Kind 0)))))))))
