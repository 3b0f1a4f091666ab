-- `jobs::jobrecords::job_of` meets its contract: what an array is mapped to is the list made by the rule. Assumes nothing.
use Rattle.std.proofs.Common.{of_calls, get_or}
use Rattle.variables.specs.Active.{no_variable}
use Rattle.merit.specs.OperandTable.{no_operand}
use Rattle.jobs.specs.Entries.{variable_of, operand_of, no_variable_record, no_operand_record}
use Rattle.jobs.specs.Records.{job_of}
use Rattle.lists.specs.Made.{listed}
use Rattle.jobs.proofs.jobrecords.job_of.Goals as goal

pub returns : goal.returns
returns c =
    let x = c.args.held in
    let v = c.map-variables.ensures.items in
    let o = c.map-operands.ensures.items in
    let variables = listed (λ n. variable_of (get_or x.variables n no_variable_record)) c.map-variables.result 8 no_variable v.long
    (λ i h. let q = (v.at i no_variable_record no_variable h).2.met in search of_calls) in
    let operands = listed (λ n. operand_of (get_or x.operands n no_operand_record)) c.map-operands.result 12 no_operand o.long
    (λ i h. let q = (o.at i no_operand_record no_operand h).2.met in search of_calls) in
    λ i. record {
      prescription = (job_of c.args.kind x).prescription;
      variables = record { variables = variables i; variable_count = x.variable_count };
      merit_function = record { operands = operands i; operand_count = x.operand_count };
      method = c.method_from.ensures i;
    }
