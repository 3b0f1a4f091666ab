-- The lines of the input. Definitions only.
use Rattle.std.specs.Prelude.{◌≡◌, ℕ, ◌+◌, ◌-◌, ◌%◌, ◌^◌, ◌≤◌, Bool, true, false, cond}
use Rattle.std.specs.Prelude.{List, [], length, take, drop, ◌==◌, nat_lt, slice_index, Some, None, IsSome, IsNone, Result, Ok, Err, zero, suc}
use Rattle.std.specs.Bool.{then_some}
use Rattle.streams.specs.Parts.{index_of, slice}
use Rattle.streams.specs.declared.input.Input.{Input}
use Rattle.streams.specs.declared.input.Found.{Found}
use Rattle.streams.specs.declared.input.Stage.{Stage}
use Rattle.streams.specs.declared.input.Stage.TheVariants.{Reading, Ended, Done, Failed}

-- nothing is read, and the first line is number 1
abbrev pub new_input : Input
new_input = record { from = 0; to = 0; number = 1; is_cut = false; stage = Reading }

-- another read may bring more
abbrev pub more : Stage → Bool
more Reading = true
more Ended = false
more Done = false
more Failed = false

abbrev pub has_more : Input → Bool
has_more input = more input.stage

-- there may be another line
abbrev pub open_at : Stage → Bool
open_at Reading = true
open_at Ended = true
open_at Done = false
open_at Failed = false

abbrev pub is_open : Input → Bool
is_open input = open_at input.stage

-- every read went well
abbrev pub good_at : Stage → Bool
good_at Reading = true
good_at Ended = true
good_at Done = true
good_at Failed = false

abbrev pub is_good : Input → Bool
is_good input = good_at input.stage

-- once the last line is taken
abbrev pub over : Stage → Stage
over Reading = Done
over Ended = Done
over Done = Done
over Failed = Failed

-- the number of the line that comes next is one above that of the last
abbrev pub lines_of : Input → ℕ
lines_of input = (input.number + (2 ^ 64 - 1)) % 2 ^ 64

-- a carriage return before a line feed at `end` is no part of the line
abbrev pub line_to : List ℕ → ℕ → ℕ → ℕ
line_to buf from end = cond (nat_lt from end) (cond (slice_index buf (end - 1) == 13) (end - 1) end) end

-- where what is read and not taken has its first line feed, or ends
abbrev pub feed_at : List ℕ → Input → ℕ
feed_at buf input = input.from + index_of 10 (slice input.from input.to buf)

-- the line whose line feed stands at `end`, and what comes after that
abbrev pub held_line : List ℕ → Input → ℕ → Found
held_line buf input end =
    record {
      line = Some (record { from = input.from; to = line_to buf input.from end; number = input.number; is_cut = input.is_cut });
      input =
          record {
            from = end + 1;
            to = input.to;
            number = (input.number + 1) % 2 ^ 64;
            is_cut = false;
            stage = input.stage;
          };
    }

-- what is left at the end of the input: a last line needs no line feed
abbrev pub is_left : Input → Bool
is_left input = cond (nat_lt input.from input.to) true input.is_cut

abbrev pub last_line : Input → Found
last_line input =
    record {
      line = then_some (is_left input) (record { from = input.from; to = input.to; number = input.number; is_cut = input.is_cut });
      input =
          record {
            from = input.to;
            to = input.to;
            number = (input.number + cond (is_left input) 1 0) % 2 ^ 64;
            is_cut = false;
            stage = over input.stage;
          };
    }

abbrev pub not_yet : Input → Found
not_yet input = record { line = None; input = input }

-- a line that the buffer holds whole is taken; at the end of the input, what is left; and else no line is there yet
unfoldable pub line_from : List ℕ → Input → Found
line_from buf input =
    cond (nat_lt (feed_at buf input) input.to) (held_line buf input (feed_at buf input))
    (cond (has_more input) (not_yet input) (last_line input))

-- what was read and is not taken fills the whole buffer: a line that is too long
abbrev pub fills : (room : ℕ) → Input → Bool
fills room input = input.to - input.from == room

-- the same line in the first `to` bytes
abbrev pub placed_at : (to : ℕ) (cut : Bool) → Input → Input
placed_at to cut input =
    record {
      from = 0;
      to = to;
      number = input.number;
      is_cut = cut;
      stage = input.stage;
    }

-- room is made for more: what is not taken goes to the front, and is dropped where it fills the buffer
abbrev pub roomed : (room : ℕ) → Input → Input
roomed room input = cond (fills room input) (placed_at 0 true input) (placed_at (input.to - input.from) input.is_cut input)

abbrev pub held_bytes : List ℕ → Input → List ℕ
held_bytes buf input = cond (fills (length buf) input) [] (take (input.to - input.from) (drop input.from buf))

-- after a read that brought the bytes up to `to`, or failed: there is more where something came, and no further line where it failed
abbrev pub read_to : (to : ℕ) (good : Bool) → Input → Input
read_to to good input =
    record {
      from = 0;
      to = to;
      number = input.number;
      is_cut = input.is_cut;
      stage = cond good (cond (nat_lt input.to to) Reading Ended) Failed;
    }

-- the same of what the read answered
abbrev pub stage_after : {E : Type 0} → Result ℕ E → Stage
stage_after (Ok zero) = Ended
stage_after (Ok (suc n)) = Reading
stage_after (Err e) = Failed

-- one more read. What it brings is open: how many bytes, which ones, and whether it fails. All else is as it was, with room made for them
pub record ReadOn (buf : List ℕ) (input : Input) (left : List ℕ) (next : Input) : Type 0 where
  pub kept : take (roomed (length buf) input).to left ≡ held_bytes buf input
  pub came : (roomed (length buf) input).to ≤ next.to
  pub rest : next ≡ read_to next.to (is_good next) (roomed (length buf) input)

-- a line is followed by what comes after it; where none is there yet, and there is more, by what a read leaves
pub record WentOn (buf : List ℕ) (found : Found) (left : List ℕ) (next : Input) : Type 0 where
  pub there : IsSome found.line → (next ≡ found.input) × (left ≡ buf)
  pub over : has_more found.input ≡ false → (next ≡ found.input) × (left ≡ buf)
  pub read : IsNone found.line → has_more found.input ≡ true → ReadOn buf found.input left next
