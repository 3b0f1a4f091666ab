-- What a call makes of the bench, and what it is answered with. Definitions only.
use Rattle.std.specs.Prelude.{◌≡◌, ℕ, min, Bool, nat_lt, List, [], ◌∷◌, replicate, Float, Option, Some, None, Ok}
use Rattle.std.specs.Float.Ieee.{of_bits}
use Rattle.std.specs.Float.{binary64}
use Rattle.bench.specs.declared.types.Bench.{Bench}
use Rattle.bench.specs.Benches.{empty_bench}
use Rattle.bench.specs.Calls.{admit_number, admitted_bench, release_number, released_bench, fetch_number, dealt_of, dealt_bench}
use Rattle.benchcalls.specs.Play.{Play, played_of}
use Rattle.streams.specs.declared.output.Output.{Output}
use Rattle.streams.specs.Output.{Puts}
use Rattle.answers.specs.Lines.{counted}
use Rattle.callplay.specs.declared.Played.{Played}
use Rattle.callplay.specs.declared.call.Call.{Call}
use Rattle.callplay.specs.declared.call.Call.TheVariants.{Empty, Admit, Turn, Release, Deal, Fetch, List as Listing}
use Rattle.callplay.specs.Answers.{call_texts, fetch_texts, list_texts}
use Rattle.callplay.specs.Lines.{call_of}

-- scratch as it is lent: as much as the line says, up to 1,024
abbrev pub lent : (room : ℕ) → List Float
lent room = replicate (min room 1024) (of_bits binary64 0)

-- turns of a place, as a line has them taken
abbrev pub play_of : Bench → (place room turns : ℕ) → Play
play_of b place room turns = played_of b place turns (lent room)

-- the bench that a call leaves
unfoldable pub bench_after : Call → Bench → Bench
bench_after Empty b = empty_bench
bench_after (Admit place request) b = admitted_bench b place request
bench_after (Turn place room turns) b = (play_of b place room turns).bench
bench_after (Release place) b = released_bench b place
bench_after (Deal turns room) b = dealt_bench b turns (min room 1024)
bench_after (Fetch place) b = b
bench_after Listing b = b

-- whether a call is refused, of one that may be
unfoldable pub count_of : Call → Bench → Option Bool
count_of Empty b = None
count_of (Admit place request) b = Some (nat_lt 0 (admit_number b place request))
count_of (Turn place room turns) b = Some (nat_lt 0 (play_of b place room turns).number)
count_of (Release place) b = Some (nat_lt 0 (release_number b place))
count_of (Deal turns room) b = Some (nat_lt 0 (dealt_of b turns (min room 1024)).number)
count_of (Fetch place) b = Some (nat_lt 0 (fetch_number b place))
count_of Listing b = None

-- what a call on this bench is answered with: `Z`, or its letter and its number, and what it hands out
unfoldable pub answer_texts : Call → Bench → List (List ℕ)
answer_texts Empty b = (90 ∷ 10 ∷ []) ∷ []
answer_texts (Admit place request) b = call_texts (65 ∷ []) (admit_number b place request) []
answer_texts (Turn place room turns) b = call_texts (84 ∷ []) (play_of b place room turns).number ((play_of b place room turns).taken ∷ [])
answer_texts (Release place) b = call_texts (68 ∷ []) (release_number b place) []
answer_texts (Deal turns room) b =
    call_texts (78 ∷ []) (dealt_of b turns (min room 1024)).number
    ((dealt_of b turns (min room 1024)).dealt ∷ (dealt_bench b turns (min room 1024)).next_place ∷ [])
answer_texts (Fetch place) b = fetch_texts b place
answer_texts Listing b = list_texts b

-- the line's call is done on the bench, and answered so
pub record Done (p : Played) (o : Output) (line : List ℕ) (number : ℕ) (q : Played) (n : Output) : Type 0 where
  pub call : Call
  pub is : call_of line ≡ Ok call
  pub bench : q.bench ≡ bench_after call p.bench
  pub answer : Puts (counted (count_of call p.bench) o) (answer_texts call p.bench) n
