-- What lines are answered with, as texts. Definitions only.
use Rattle.std.specs.Prelude.{◌≡◌, ℕ, ◌+◌, ◌*◌, List, [], ◌∷◌, ◌++◌, length, Float}
use Rattle.streams.specs.Output.{blank, hex_text, float_texts}
use Rattle.leaves.specs.declared.leaf.Reply.{Reply}
use Rattle.leaves.specs.declared.leaf.Reply.TheVariants.{One, Two, Draw, State}
use Rattle.leaves.specs.declared.names.Leaf.{Leaf}
use Rattle.leaves.specs.declared.names.Leaf.TheVariants.{Exp, Sqrt, Abs, Jump, Uniform, Clamp}
use Rattle.leaves.specs.declared.names.Leaf.TheVariants as names

-- floats by their bits, and states in hexadecimal
abbrev pub reply_texts : Reply → List (List ℕ)
reply_texts (One x) = float_texts (x ∷ [])
reply_texts (Two x y) = float_texts (x ∷ y ∷ [])
reply_texts (Draw state unit) = (blank ∷ hex_text state ∷ []) ++ float_texts (unit ∷ [])
reply_texts (State state) = blank ∷ hex_text state ∷ []

-- whether a reply is a number, two, a state and a number, or a state
pub data Sort : Type 0 where
  a_number two_numbers a_draw a_state : Sort

abbrev pub sort_of : Reply → Sort
sort_of (One x) = a_number
sort_of (Two x y) = two_numbers
sort_of (Draw state unit) = a_draw
sort_of (State state) = a_state

unfoldable pub leaf_sort : Leaf → Sort
leaf_sort Exp = a_number
leaf_sort Sqrt = a_number
leaf_sort Abs = a_number
leaf_sort names.Draw = a_draw
leaf_sort Jump = a_state
leaf_sort Uniform = a_number
leaf_sort Clamp = two_numbers

-- a leaf line's reply, no solution, or so many numbers
pub data Answer : Type 0 where
  replied : Reply → Answer
  unsolved : Answer
  numbers : List Float → Answer

abbrev pub line_end : List (List ℕ)
line_end = (10 ∷ []) ∷ []

-- no solution is ` none`
abbrev pub answer_texts : Answer → List (List ℕ)
answer_texts (replied reply) = reply_texts reply ++ line_end
answer_texts unsolved = (32 ∷ 110 ∷ 111 ∷ 110 ∷ 101 ∷ 10 ∷ []) ∷ []
answer_texts (numbers row) = float_texts row ++ line_end

-- of a leaf line of that name
abbrev pub IsReply : Leaf → Answer → Type 0
IsReply leaf (replied reply) = sort_of reply ≡ leaf_sort leaf
IsReply leaf unsolved = ⊥
IsReply leaf (numbers row) = ⊥

-- of a system of p unknowns: a number for each, or no solution
abbrev pub IsSolution : (p : ℕ) → Answer → Type 0
IsSolution p (replied reply) = ⊥
IsSolution p unsolved = Unit {0}
IsSolution p (numbers row) = length row ≡ p

-- of a Jacobian of p columns: p rows of p numbers, a gradient of p, and its norm
abbrev pub IsEquations : (p : ℕ) → Answer → Type 0
IsEquations p (replied reply) = ⊥
IsEquations p unsolved = ⊥
IsEquations p (numbers row) = length row ≡ p * p + p + 1
