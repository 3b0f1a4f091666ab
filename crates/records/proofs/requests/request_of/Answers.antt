-- `records::requests::request_of` meets its contract. Assumes nothing.
use Rattle.records.specs.Requests.{request_of}
use Rattle.records.proofs.requests.request_of.Goals as goal

pub returns : goal.returns
unfolding request_of
returns c =
    λ i. record {
      prescription = (c.job_of-job.ensures i).prescription;
      variables = (c.job_of-job.ensures i).variables;
      merit_function = (c.job_of-job.ensures
          i).merit_function;
      method = c.method_request.ensures i;
    }
