-- A job's record, made from it, meets its contract: what an array is mapped to is the list made by the rule. Assumes nothing.
use Rattle.std.proofs.Common.{of_calls, get_or}
use Rattle.variables.specs.Active.{no_variable}
use Rattle.merit.specs.OperandTable.{no_operand}
use Rattle.jobs.specs.Entries.{variable_record, operand_record, no_variable_record, no_operand_record}
use Rattle.lists.specs.Made.{listed}
use Rattle.jobs.proofs.jobrecords.JobRecordFromJob.from.Goals as goal

pub returns : goal.returns
returns c =
    let j = c.args.job in
    let v = c.map-variables.ensures.items in
    let o = c.map-operands.ensures.items in
    let variables = listed (λ n. variable_record (get_or j.variables.variables n no_variable)) c.map-variables.result 8 no_variable_record v.long
    (λ i h. let q = (v.at i no_variable no_variable_record h).2.met in search of_calls) in
    let operands = listed (λ n. operand_record (get_or j.merit_function.operands n no_operand)) c.map-operands.result 12 no_operand_record o.long
    (λ i h. let q = (o.at i no_operand no_operand_record h).2.met in search of_calls) in
    λ i. record {
      surfaces = j.prescription.surfaces;
      indices = j.prescription.indices;
      variables = variables i;
      operands = operands i;
      surface_count = j.prescription.surface_count;
      slot_count = j.prescription.slot_count;
      variable_count = j.variables.variable_count;
      operand_count = j.merit_function.operand_count;
      entrance_pupil_diameter_mm = j.prescription.entrance_pupil_diameter_mm;
      settings = c.into.ensures i;
    }
