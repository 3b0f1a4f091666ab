-- The followers of a job line's variables: a section that is read where its letter stands. Definitions only.
use Rattle.std.specs.Prelude.{ℕ, ◌-◌, cond, List, [], ◌∷◌, eqb, get_or, Ok}
use Rattle.variables.specs.declared.types.Follower.{Follower}
use Rattle.variables.specs.declared.types.VariableDef.{VariableDef}
use Rattle.variables.specs.Active.{no_variable}
use Rattle.jobs.specs.Entries.{follower_of}
use Rattle.text.specs.declared.reader.Why.TheVariants.{Range}
use Rattle.text.specs.Fields.{field_of}
use Rattle.text.specs.Reader.{then, decimal_from, within_from, begins_with, past_word}
use Rattle.joblines.specs.declared.followers.Placed.{Placed}
use Rattle.joblines.specs.Entries.{Form, read_after, put_from, stored_at}

-- the number of a variable, of which the line has so many; where it has none, none may stand there: no number is from 1 to 0
unfoldable pub place_from : (count : ℕ) → Form ℕ
place_from count line at = cond (eqb count 0) (within_from 1 0 Range line at) (within_from 0 (count - 1) Range line at)

-- a follower: variable sign surface; the sign is 1 for plus, 2 for minus
unfoldable pub follower_from : (count : ℕ) → Form Placed
follower_from count line at =
    then (place_from count line at) (λ place.
    then (within_from 1 2 Range line place.to) (λ sign.
    then (decimal_from line sign.to) (λ surface.
    Ok (field_of surface.to (record { place = place.value; follower = follower_of sign.value surface.value })))))

-- the variable that it is of, among the eight that there is room for
abbrev pub following_by : Follower → VariableDef → VariableDef
following_by f d = record {
  var_type = d.var_type;
  min_value = d.min_value;
  max_value = d.max_value;
  step_size = d.step_size;
  enabled = d.enabled;
  follower = f;
}

abbrev pub with_follower : Placed → List VariableDef → List VariableDef
with_follower p l = stored_at 8 p.place (following_by p.follower (get_or l p.place no_variable)) l

-- {variable sign surface}, so many
unfoldable pub followers_listed : (count many : ℕ) → List VariableDef → Form (List VariableDef)
followers_listed count many = read_after (λ i. put_from (follower_from count) with_follower) many 0

-- [F m {variable sign surface}]
abbrev pub followers_mark : List ℕ
followers_mark = 70 ∷ []

unfoldable pub followers_from : (count : ℕ) → List VariableDef → Form (List VariableDef)
followers_from count l line at =
    cond (begins_with line at followers_mark)
    (then (decimal_from line (past_word line at)) (λ many. followers_listed count many.value l line many.to))
    (Ok (field_of at l))
