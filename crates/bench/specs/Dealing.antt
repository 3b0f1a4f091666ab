-- Turns dealt round the places (request 8): one rule for bench and book, and what is said of it. Definitions only.
use Rattle.std.specs.Prelude.{◌≡◌, Bool, true, cond, List, [], ◌∷◌, ℕ, zero, suc, ◌+◌, ◌%◌, eqb}

-- "the one after .. 0 after 3"
abbrev pub place_after : ℕ → ℕ
place_after place = (place + 1) % 4

-- a place, or none
pub data Found : Type 0 where
  at : (place : ℕ) → Found
  nowhere : Found

-- "round the places in rising order .. skipping empty and finished ones": the first with a job to serve, of as many places going round from this one
abbrev pub first_from : (live : ℕ → Bool) (count place : ℕ) → Found
first_from live zero place = nowhere
first_from live (suc count) place = cond (live place) (at place) (first_from live count (place_after place))

-- A bench or a book: whether a place holds a job to serve, what a turn dealt to it leaves, and "the place to go next".
pub record Dealer (S : Type 0) : Type 0 where
  pub live : S → ℕ → Bool
  pub serve : S → ℕ → S
  pub next : S → ℕ

module _ {S : Type 0} (d : Dealer S) where
  -- whom the next turn serves; nobody where "no job is left"
  abbrev pub next_served : S → Found
  next_served s = first_from (d.live s) 4 (d.next s)

  abbrev pub served_if : Found → (ℕ → List ℕ) → List ℕ
  served_if nowhere more = []
  served_if (at place) more = place ∷ more place

  -- the places that n turns serve, "one each", in order, "until N are spent or no job is left"
  unfoldable pub served : ℕ → S → List ℕ
  served zero s = []
  served (suc n) s = served_if (next_served s) (λ place. served n (d.serve s place))

  -- the place has a job to serve before each of these turns
  abbrev pub Throughout : (place : ℕ) → S → List ℕ → Type 0
  Throughout place s [] = Unit
  Throughout place s (p ∷ ps) = (d.live s place ≡ true) × Throughout place (d.serve s p) ps

-- "the one after the last served by a dealing .. unchanged where none is served"
abbrev pub next_after : (next : ℕ) (served : List ℕ) → ℕ
next_after next [] = next
next_after next (p ∷ ps) = next_after (place_after p) ps

-- how many of these turns serve the place
abbrev pub times : (place : ℕ) (served : List ℕ) → ℕ
times place [] = 0
times place (p ∷ ps) = cond (eqb p place) 1 0 + times place ps
