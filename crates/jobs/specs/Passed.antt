-- What a job that is taken has, by name: a fact for each number of the list. Assumes nothing.
use Rattle.std.specs.Prelude.{◌≡◌, refl, true, false, ℕ, zero, suc, ◌<◌, T, eqb}
use Rattle.std.proofs.Common.{zero-lt-suc, eqb-true}
use Rattle.std.proofs.lemmas.Bool.{not-false, eqb-false}
use Rattle.lists.specs.Refusals.{none_of, let_through}
use Rattle.optics.specs.Check.{lens_taken}
use Rattle.variables.specs.Active.{num_active}
use Rattle.variables.specs.Taken.{variables_taken, followers_taken}
use Rattle.merit.specs.Check.{operands_taken}
use Rattle.jobs.specs.declared.types.Job.{Job}
use Rattle.jobs.specs.Checks.{settings_taken, counts_taken, job_refusals, job_taken}
use Rattle.jobs.specs.Counts.{Counts, counts}
use Rattle.jobs.specs.RefusalLaws.{not-refused}

pub record Passed (j : Job) : Type 0 where
  pub counted : Counts j
  pub lens : T (lens_taken j.prescription)
  pub variables : T (variables_taken j.prescription.surface_count j.variables)
  pub followers : T (followers_taken j.prescription.surface_count j.variables)
  pub operands : T (operands_taken j.prescription.slot_count j.merit_function)
  pub settings : T (settings_taken j.method)
  pub enabled : 0 < num_active j.variables
  pub some_operand : 0 < j.merit_function.operand_count

some : (n : ℕ) → eqb n 0 ≡ false → 0 < n
some zero e = absurd (eqb-false 0 0 e refl)
some (suc n) e = zero-lt-suc n

pub passed : (j : Job) → job_taken j ≡ true → Passed j
passed j taken =
    let none = (not-refused j).0 (eqb-true _ 0 taken) in
    let rs = job_refusals j in
    record {
      counted = counts j (not-false (counts_taken j) (none_of rs 1 none));
      lens = let_through (lens_taken j.prescription) (none_of rs 3 none);
      variables = let_through (variables_taken j.prescription.surface_count j.variables) (none_of rs 4 none);
      followers = let_through (followers_taken j.prescription.surface_count j.variables) (none_of rs 17 none);
      operands = let_through (operands_taken j.prescription.slot_count j.merit_function) (none_of rs 5 none);
      settings = let_through (settings_taken j.method) (none_of rs 6 none);
      enabled = some (num_active j.variables) (none_of rs 7 none);
      some_operand = some j.merit_function.operand_count (none_of rs 8 none);
    }
