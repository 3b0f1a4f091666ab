-- A trace's answer, out of the number and the count of surfaces. Assumes nothing.
use Rattle.std.specs.Prelude.{◌≡◌, refl, Bool, true, false, cond, ◌↔◌, ltb, ℕ, zero, suc, ◌≤◌, ◌<◌, Result, Ok, Err}
use Rattle.std.proofs.Common.{sym, subst, lt_irrefl, lt_of_le_of_lt, ltb-true, ltb-false}
use Rattle.merit.specs.Calls.{answer_of, traced_number}
use Rattle.merit.specs.declared.types.Traced.{Traced}
use Rattle.merit.specs.declared.types.Traced.TheVariants.{Done, Failed}

abbrev Doing : Result Traced ℕ → Type 0
Doing (Ok Done) = Unit {0}
Doing (Ok Failed) = ⊥
Doing (Err n) = ⊥

-- an answer that refuses nothing, by the count
abbrev open_answer : (few : Bool) → Result Traced ℕ
open_answer few = Ok (cond few Failed Done)

pub unrefused : (count : ℕ) (b : Bool) → ltb count 2 ≡ b → ((open_answer b ≡ Ok Done) ↔ (2 ≤ count)) × ((open_answer b ≡ Ok Failed) ↔ (count < 2))
unrefused count true e =
    let few = ltb-true count 2 e in
    ((λ h. absurd (subst Doing (sym h) tt), λ h. absurd (lt_irrefl 2 (lt_of_le_of_lt h few))), (λ h. few, λ h. refl))
unrefused count false e =
    let many = ltb-false count 2 e in
    ((λ h. many, λ h. refl), (λ h. absurd (subst Doing h tt), λ h. absurd (lt_irrefl 2 (lt_of_le_of_lt many h))))

-- an answer's number is the list's
pub number_of : (n count : ℕ) → traced_number (answer_of n count) ≡ n
number_of zero count = go (ltb count 2)
  where
    go : (b : Bool) → traced_number (open_answer b) ≡ 0
    go true = refl
    go false = refl
number_of (suc n) count = refl
