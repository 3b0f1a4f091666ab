-- Operands of a job line. Definitions only.
use Rattle.std.specs.Prelude.{ℕ, List, replicate, Ok}
use Rattle.std.specs.Float.{nan}
use Rattle.merit.specs.declared.types.MeritOperand.{MeritOperand}
use Rattle.merit.specs.declared.types.OperandType.TheVariants.{EffectiveFocalLength}
use Rattle.jobs.specs.Entries.{operand_type}
use Rattle.text.specs.declared.reader.Why.TheVariants.{Kind}
use Rattle.text.specs.Fields.{field_of}
use Rattle.text.specs.Reader.{then, decimal_from, within_from, float_from}
use Rattle.joblines.specs.Entries.{Form, entries_from}

-- an operand: kind at limit target weight; there are kinds 0 to 7
unfoldable pub operand_from : Form MeritOperand
operand_from line at =
    then (within_from 0 7 Kind line at) (λ kind.
    then (decimal_from line kind.to) (λ surface.
    then (float_from line surface.to) (λ limit.
    then (float_from line limit.to) (λ target.
    then (float_from line target.to) (λ weight.
    Ok (field_of weight.to (record {
      operand_type = operand_type kind.value surface.value limit.value;
      target = target.value;
      weight = weight.value;
    })))))))

-- where no operand was read: what no call takes
abbrev pub unread_operand : MeritOperand
unread_operand = record { operand_type = EffectiveFocalLength 0xffff_ffff_ffff_ffff; target = nan; weight = nan }

-- {kind at limit target weight}, so many, of which there is room for 12
unfoldable pub operands_from : (count : ℕ) → Form (List MeritOperand)
operands_from count = entries_from operand_from count (replicate 12 unread_operand)
