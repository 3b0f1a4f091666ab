-- The request of a job line. Definitions only.
use Rattle.std.specs.Prelude.{ℕ, Ok}
use Rattle.joblines.specs.declared.line.JobLine.{JobLine}
use Rattle.jobs.specs.declared.types.JobRequest.{JobRequest}
use Rattle.text.specs.Fields.{field_of}
use Rattle.text.specs.Reader.{then}
use Rattle.joblines.specs.Entries.{Form}
use Rattle.joblines.specs.Settings.{method_from}

-- what stood before the settings, and the settings of the kind from there on
abbrev pub request_from : (kind : ℕ) → JobLine → Form JobRequest
request_from kind job line at =
    then (method_from kind line at) (λ method.
    Ok (field_of method.to (record {
      prescription = job.prescription;
      variables = job.variables;
      merit_function = job.merit_function;
      method = method.value;
    })))
