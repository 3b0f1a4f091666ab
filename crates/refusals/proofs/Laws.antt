-- A refusal's number says which it is, and what a call answers whether it is done: see `Distinct`. Assumes nothing.
use Rattle.std.specs.Prelude.{◌≡◌, refl, true, cond, ℕ, zero, suc, ◌<◌, eqb, Result, Ok, Err, is_ok, ⊤}
use Rattle.std.proofs.Common.{sym, ap, ◌∙◌, arith}
use Rattle.refusals.specs.Numbers.{number_of, answered, Distinct, value_unless}
use Rattle.refusals.specs.declared.Refusal.{Refusal}
use Rattle.refusals.specs.declared.Refusal.TheVariants.{BadCount, NoSuchPlace, BadLens, BadVariable, BadOperand, BadSetting, NoVariable, NoOperand}
use Rattle.refusals.specs.declared.Refusal.TheVariants.{ShortScratch, Taken, Empty, Damaged, Finished, Unfinished, BadFollower, BadLimits}

abbrev numbered : ℕ → Refusal
numbered n =
    cond (eqb n 1) BadCount (cond (eqb n 2) NoSuchPlace (cond (eqb n 3) BadLens (cond (eqb n 4) BadVariable
    (cond (eqb n 5) BadOperand (cond (eqb n 6) BadSetting (cond (eqb n 7) NoVariable (cond (eqb n 8) NoOperand
    (cond (eqb n 9) ShortScratch (cond (eqb n 10) Taken (cond (eqb n 11) Empty (cond (eqb n 12) Damaged
    (cond (eqb n 13) Finished (cond (eqb n 14) Unfinished (cond (eqb n 17) BadFollower BadLimits))))))))))))))

numbered-back : (r : Refusal) → numbered (number_of r) ≡ r
numbered-back BadCount = refl
numbered-back NoSuchPlace = refl
numbered-back BadLens = refl
numbered-back BadVariable = refl
numbered-back BadOperand = refl
numbered-back BadSetting = refl
numbered-back NoVariable = refl
numbered-back NoOperand = refl
numbered-back ShortScratch = refl
numbered-back Taken = refl
numbered-back Empty = refl
numbered-back Damaged = refl
numbered-back Finished = refl
numbered-back Unfinished = refl
numbered-back BadFollower = refl
numbered-back BadLimits = refl

same-number : (a b : Refusal) → number_of a ≡ number_of b → a ≡ b
same-number a b e = sym (numbered-back a) ∙ ap numbered e ∙ numbered-back b

nonzero : (r : Refusal) → 0 < number_of r
nonzero BadCount = omega arith
nonzero NoSuchPlace = omega arith
nonzero BadLens = omega arith
nonzero BadVariable = omega arith
nonzero BadOperand = omega arith
nonzero BadSetting = omega arith
nonzero NoVariable = omega arith
nonzero NoOperand = omega arith
nonzero ShortScratch = omega arith
nonzero Taken = omega arith
nonzero Empty = omega arith
nonzero Damaged = omega arith
nonzero Finished = omega arith
nonzero Unfinished = omega arith
nonzero BadFollower = omega arith
nonzero BadLimits = omega arith

pub number-distinct : (r : Refusal) → Distinct r
number-distinct r = (nonzero r, λ other e. same-number other r e)

-- what is answered with 0 is done
pub is-done : {A : Type 0} (r : Result A Refusal) → answered r ≡ 0 → is_ok r ≡ true
is-done (Ok x) e = refl
is-done (Err r) e = absurd (omega (arith, nonzero r, e))

-- the number of a call that hands out nothing else says all that it answered
pub same-answer : (a b : Result ⊤ Refusal) → answered a ≡ answered b → a ≡ b
same-answer a b e = sym (said-back a) ∙ ap said e ∙ said-back b
  where
    said : ℕ → Result ⊤ Refusal
    said n = cond (eqb n 0) (Ok tt) (Err (numbered n))

    said-back : (r : Result ⊤ Refusal) → said (answered r) ≡ r
    said-back (Ok tt) = refl
    said-back (Err BadCount) = refl
    said-back (Err NoSuchPlace) = refl
    said-back (Err BadLens) = refl
    said-back (Err BadVariable) = refl
    said-back (Err BadOperand) = refl
    said-back (Err BadSetting) = refl
    said-back (Err NoVariable) = refl
    said-back (Err NoOperand) = refl
    said-back (Err ShortScratch) = refl
    said-back (Err Taken) = refl
    said-back (Err Empty) = refl
    said-back (Err Damaged) = refl
    said-back (Err Finished) = refl
    said-back (Err Unfinished) = refl
    said-back (Err BadFollower) = refl
    said-back (Err BadLimits) = refl

-- a refused call hands out its number, and another its value
pub value-refused : {A : Type 0} (r : Refusal) (n : ℕ) (value : A) → number_of r ≡ n → Err (number_of r) ≡ value_unless n value
value-refused r zero value e = absurd (omega (arith, nonzero r, e))
value-refused r (suc n) value e = ap Err e

pub value-given : {A : Type 0} (n : ℕ) (value value' : A) → 0 ≡ n → value' ≡ value → Ok value' ≡ value_unless n value
value-given zero value value' e h = ap Ok h
value-given (suc n) value value' e h = absurd (omega (arith, e))
