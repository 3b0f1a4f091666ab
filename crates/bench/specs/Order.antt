-- Request 10: "Let it be by working turns used, fewest first, equal ones by rising place". `turns` has each place's. Definitions only.
use Rattle.std.specs.Prelude.{◌≡◌, cond, List, [], ◌∷◌, ℕ, ◌<◌, ltb}

module _ (turns : ℕ → ℕ) where
  -- what the order is, for a reader: "fewest first, equal ones by rising place"
  pub data Before (p q : ℕ) : Type 0 where
    fewer : turns p < turns q → Before p q
    equal : turns p ≡ turns q → p < q → Before p q

  -- each place before the next
  abbrev pub Rising : List ℕ → Type 0
  Rising [] = Unit
  Rising (p ∷ []) = Unit
  Rising (p ∷ q ∷ qs) = Before p q × Rising (q ∷ qs)

  -- how it is found: a place goes in front of the first that has more turns, so behind those with as many
  abbrev pub inserted : ℕ → List ℕ → List ℕ
  inserted p [] = p ∷ []
  inserted p (q ∷ qs) = cond (ltb (turns p) (turns q)) (p ∷ q ∷ qs) (q ∷ inserted p qs)

  -- one place after the other
  abbrev pub ordered_behind : (done places : List ℕ) → List ℕ
  ordered_behind done [] = done
  ordered_behind done (p ∷ ps) = ordered_behind (inserted p done) ps

  abbrev pub ordered : List ℕ → List ℕ
  ordered places = ordered_behind [] places
