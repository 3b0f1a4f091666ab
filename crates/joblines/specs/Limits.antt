-- The settings of a trace within limits. Definitions only.
use Rattle.std.specs.Prelude.{ℕ, List, replicate, Ok}
use Rattle.std.specs.Float.{nan}
use Rattle.intervals.specs.declared.types.Interval.{Interval}
use Rattle.text.specs.Fields.{field_of}
use Rattle.text.specs.Reader.{then, decimal_from, float_from}
use Rattle.joblines.specs.declared.limits.LimitsRead.{LimitsRead}
use Rattle.joblines.specs.Entries.{Form, entries_from}

-- a pair: least greatest
unfoldable pub pair_from : Form Interval
pair_from line at =
    then (float_from line at) (λ least.
    then (float_from line least.to) (λ greatest. Ok (field_of greatest.to (record { low = least.value; high = greatest.value }))))

-- where no pair was read: what no call takes
abbrev pub unread_pair : Interval
unread_pair = record { low = nan; high = nan }

-- {least greatest}, so many, of which there is room for 16
unfoldable pub pairs_from : (count : ℕ) → Form (List Interval)
pairs_from count = entries_from pair_from count (replicate 16 unread_pair)

-- slot {least greatest, a pair a surface}
unfoldable pub limits_from : (count : ℕ) → Form LimitsRead
limits_from count line at =
    then (decimal_from line at) (λ slot.
    then (pairs_from count line slot.to) (λ pairs.
    Ok (field_of pairs.to (record { slot = slot.value; limits = record { thicknesses = pairs.value } }))))
