-- A dealing from one place to the next. Definitions only.
use Rattle.std.specs.Prelude.{cond, not, ◌||◌, ℕ, ◌+◌, ltb, Result, Ok, Err}
use Rattle.refusals.specs.Numbers.{value_unless}
use Rattle.bench.specs.declared.types.Bench.{Bench}
use Rattle.bench.specs.declared.types.Dealt.{Dealt}
use Rattle.bench.specs.Dealing.{place_after}
use Rattle.bench.specs.Calls.{deal_number}
use Rattle.dealing.specs.declared.types.Round.{Round}

-- "The next dealing starts there"
abbrev pub first_round : Bench → (turns : ℕ) → Round
first_round b turns = record { at = b.next_place; next = b.next_place; missed = 0; dealt = 0; limit = turns }

-- a dealing that is refused has none
abbrev pub begun_of : Bench → (turns room : ℕ) → Result Round ℕ
begun_of b turns room = value_unless (deal_number b room) (first_round b turns)

-- the place was served
abbrev pub served_of : Round → Round
served_of r = record { at = place_after r.at; next = place_after r.at; missed = 0; dealt = r.dealt + 1; limit = r.limit }

-- it was passed over; after four such in a row "no job is left"
abbrev pub passed_of : Round → Round
passed_of r = record {
  at = place_after r.at;
  next = r.next;
  missed = cond (ltb 2 r.missed) r.missed (r.missed + 1);
  dealt = r.dealt;
  limit = cond (ltb 2 r.missed) r.dealt r.limit;
}

-- by the number of the turn there
abbrev pub moved_of : Round → (number : ℕ) → Round
moved_of r number = cond (ltb 0 number || not (ltb r.dealt r.limit)) (passed_of r) (served_of r)

-- what a dealing that is refused, or deals so many, answers
abbrev pub dealt_as : Result ℕ ℕ → Dealt
dealt_as (Ok n) = record { dealt = n; number = 0 }
dealt_as (Err number) = record { dealt = 0; number = number }
