-- What the program makes of a line. Definitions only.
use Rattle.std.specs.Prelude.{◌≡◌, ◌≢◌, ℕ, List, true, Result, Ok}
use Rattle.text.specs.declared.reader.Wrong.{Wrong}
use Rattle.text.specs.Reader.{then}
use Rattle.jobs.specs.declared.types.JobRequest.{JobRequest}
use Rattle.joblines.specs.Line.{kind_from, job_line_from}
use Rattle.joblines.specs.Request.{request_from}
use Rattle.bench.specs.Benches.{empty_bench}
use Rattle.bench.specs.Calls.{admit_number}
use Rattle.streams.specs.declared.output.Output.{Output}
use Rattle.streams.specs.Output.{with_refused}
use Rattle.answers.specs.Lines.{whole}
use Rattle.damage.specs.declared.Examined.{Examined}

-- J id kind S .. C settings, of a run, and nothing behind it
abbrev pub request_line : List ℕ → Result JobRequest Wrong
request_line line =
    whole line (then (kind_from 3 line 0) (λ kind. then (job_line_from line kind.to) (λ job. request_from kind.value job.value line job.to)))

-- nothing is put: a job that is taken is tried, and one that is refused is counted alone
pub record Tried (p : Examined) (o : Output) (line : List ℕ) (number : ℕ) (q : Examined) (n : Output) : Type 0 where
  pub request : JobRequest
  pub is : request_line line ≡ Ok request
  pub taken : admit_number empty_bench 0 request ≡ 0 → n ≡ o
  pub refused : admit_number empty_bench 0 request ≢ 0 → (q ≡ p) × (n ≡ with_refused true o)
