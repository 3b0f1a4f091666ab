-- The number of each refusal, and what a call answers: 0 where it is done. Definitions only; that the number says which refusal it is, is proved in `Laws`.
use Rattle.std.specs.Prelude.{◌≡◌, ℕ, zero, suc, ◌<◌, Result, Ok, Err}
use Rattle.refusals.specs.declared.Refusal.{Refusal}
use Rattle.refusals.specs.declared.Refusal.TheVariants.{BadCount, NoSuchPlace, BadLens, BadVariable, BadOperand, BadSetting, NoVariable, NoOperand}
use Rattle.refusals.specs.declared.Refusal.TheVariants.{ShortScratch, Taken, Empty, Damaged, Finished, Unfinished, BadFollower, BadLimits}

abbrev pub number_of : Refusal → ℕ
number_of BadCount = 1
number_of NoSuchPlace = 2
number_of BadLens = 3
number_of BadVariable = 4
number_of BadOperand = 5
number_of BadSetting = 6
number_of NoVariable = 7
number_of NoOperand = 8
number_of ShortScratch = 9
number_of Taken = 10
number_of Empty = 11
number_of Damaged = 12
number_of Finished = 13
number_of Unfinished = 14
number_of BadFollower = 17
number_of BadLimits = 19

abbrev pub answered : {A : Type 0} → Result A Refusal → ℕ
answered (Ok done) = 0
answered (Err refusal) = number_of refusal

-- none has 0, and no other has the number of this one
abbrev pub Distinct : Refusal → Type 0
Distinct refusal = (0 < number_of refusal) × ((other : Refusal) → number_of other ≡ number_of refusal → other ≡ refusal)

-- the same answer with the refusal's number in its place
abbrev pub numbered : {A : Type 0} → Result A Refusal → Result A ℕ
numbered (Ok done) = Ok done
numbered (Err refusal) = Err (number_of refusal)

-- what a call hands out, or its number where it is refused
abbrev pub value_unless : {A : Type 0} → (number : ℕ) → A → Result A ℕ
value_unless zero value = Ok value
value_unless (suc n) value = Err (suc n)
