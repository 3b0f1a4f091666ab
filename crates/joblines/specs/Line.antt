-- A job line: its kind, and the part from its surfaces up to its settings. Counts are kept as they stand, also past the limits. Definitions only.
use Rattle.std.specs.Prelude.{ℕ, List, [], ◌∷◌, Ok}
use Rattle.text.specs.declared.reader.Why.TheVariants.{Kind}
use Rattle.text.specs.Fields.{field_of}
use Rattle.text.specs.Reader.{then, decimal_from, within_from, float_from, tag_from, past_word}
use Rattle.optics.specs.declared.types.OpticalPrescription.{OpticalPrescription}
use Rattle.variables.specs.declared.types.VariableSet.{VariableSet}
use Rattle.merit.specs.declared.types.MeritFunction.{MeritFunction}
use Rattle.joblines.specs.declared.line.JobLine.{JobLine}
use Rattle.joblines.specs.Entries.{Form}
use Rattle.joblines.specs.Followers.{followers_from}
use Rattle.joblines.specs.Lens.{surfaces_from, indices_from}
use Rattle.joblines.specs.Operands.{operands_from}
use Rattle.joblines.specs.Sets.{variables_from}

-- J id kind, of the kinds from 1 to `last`: the id is any word
abbrev pub job_mark : List ℕ
job_mark = 74 ∷ []

abbrev pub kind_from : (last : ℕ) → Form ℕ
kind_from last line at = then (tag_from job_mark line at) (λ mark. within_from 1 last Kind line (past_word line mark.to))

-- the letters before the parts of a line: S, I, P, V, O and C
abbrev pub surfaces_mark : List ℕ
surfaces_mark = 83 ∷ []

abbrev pub indices_mark : List ℕ
indices_mark = 73 ∷ []

abbrev pub pupil_mark : List ℕ
pupil_mark = 80 ∷ []

abbrev pub variables_mark : List ℕ
variables_mark = 86 ∷ []

abbrev pub operands_mark : List ℕ
operands_mark = 79 ∷ []

abbrev pub settings_mark : List ℕ
settings_mark = 67 ∷ []

-- a letter, and the count behind it
unfoldable pub counted_from : (mark : List ℕ) → Form ℕ
counted_from mark line at = then (tag_from mark line at) (λ m. decimal_from line m.to)

-- S n {surface} I slots {index, surface-major} P pupil
unfoldable pub prescription_from : Form OpticalPrescription
prescription_from line at =
    then (counted_from surfaces_mark line at) (λ count.
    then (surfaces_from count.value line count.to) (λ surfaces.
    then (counted_from indices_mark line surfaces.to) (λ slots.
    then (indices_from count.value slots.value line slots.to) (λ indices.
    then (tag_from pupil_mark line indices.to) (λ mark.
    then (float_from line mark.to) (λ pupil.
    Ok (field_of pupil.to (record {
      surfaces = surfaces.value;
      indices = indices.value;
      surface_count = count.value;
      slot_count = slots.value;
      entrance_pupil_diameter_mm = pupil.value;
    }))))))))

-- V n {variable} [F m {follower}]
unfoldable pub variable_set_from : Form VariableSet
variable_set_from line at =
    then (counted_from variables_mark line at) (λ count.
    then (variables_from count.value line count.to) (λ variables.
    then (followers_from count.value variables.value line variables.to) (λ followed.
    Ok (field_of followed.to (record { variables = followed.value; variable_count = count.value })))))

-- O n {operand}
unfoldable pub merit_function_from : Form MeritFunction
merit_function_from line at =
    then (counted_from operands_mark line at) (λ count.
    then (operands_from count.value line count.to) (λ operands.
    Ok (field_of operands.to (record { operands = operands.value; operand_count = count.value }))))

-- S .. I .. P .. V .. [F ..] O .. C
unfoldable pub job_line_from : Form JobLine
job_line_from line at =
    then (prescription_from line at) (λ lens.
    then (variable_set_from line lens.to) (λ set.
    then (merit_function_from line set.to) (λ merit.
    then (tag_from settings_mark line merit.to) (λ mark.
    Ok (field_of mark.to (record { prescription = lens.value; variables = set.value; merit_function = merit.value }))))))
