-- Variables of a job line. Definitions only.
use Rattle.std.specs.Prelude.{ℕ, true, List, eqb, replicate, Ok}
use Rattle.std.specs.Float.{nan}
use Rattle.variables.specs.declared.types.Follower.TheVariants.{None, Plus}
use Rattle.variables.specs.declared.types.VariableDef.{VariableDef}
use Rattle.variables.specs.declared.types.VariableType.TheVariants.{Curvature}
use Rattle.jobs.specs.Entries.{variable_type}
use Rattle.text.specs.declared.reader.Why.TheVariants.{Kind, Range}
use Rattle.text.specs.Fields.{field_of}
use Rattle.text.specs.Reader.{then, decimal_from, within_from, float_from}
use Rattle.joblines.specs.Entries.{Form, entries_from}

-- a variable: type surface enabled lo hi step; there are types 0 to 3, and the mark of an enabled variable is 1, that of another 0
unfoldable pub variable_from : Form VariableDef
variable_from line at =
    then (within_from 0 3 Kind line at) (λ kind.
    then (decimal_from line kind.to) (λ surface.
    then (within_from 0 1 Range line surface.to) (λ enabled.
    then (float_from line enabled.to) (λ lo.
    then (float_from line lo.to) (λ hi.
    then (float_from line hi.to) (λ step.
    Ok (field_of step.to (record {
      var_type = variable_type kind.value surface.value;
      min_value = lo.value;
      max_value = hi.value;
      step_size = step.value;
      enabled = eqb enabled.value 1;
      follower = None;
    }))))))))

-- where no variable was read: what no call takes
abbrev pub unread_variable : VariableDef
unread_variable = record {
  var_type = Curvature 0xffff_ffff_ffff_ffff;
  min_value = nan;
  max_value = nan;
  step_size = nan;
  enabled = true;
  follower = Plus 0xffff_ffff_ffff_ffff;
}

-- {type surface enabled lo hi step}, so many, of which there is room for 8
unfoldable pub variables_from : (count : ℕ) → Form (List VariableDef)
variables_from count = entries_from variable_from count (replicate 8 unread_variable)
