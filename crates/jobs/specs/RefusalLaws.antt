-- For each number a law: it is answered exactly when its cause holds and none in front of it in the list does. Assumes nothing.
use Rattle.std.specs.Prelude.{◌≡◌, true, ◌↔◌}
use Rattle.lists.specs.Refusals.{first_refusal, NoneOf, before, answers, answers-none}
use Rattle.jobs.specs.declared.types.Job.{Job}
use Rattle.jobs.specs.Checks.{counts_wrong, lens_refused, variables_refused, followers_refused, operands_refused, settings_refused, no_active_variable}
use Rattle.jobs.specs.Checks.{no_operand, job_refusals}

module _ (j : Job) where
  pub not-refused : (first_refusal (job_refusals j) ≡ 0) ↔ NoneOf (job_refusals j)
  not-refused = answers-none (job_refusals j) tt

  pub refused-1 : (first_refusal (job_refusals j) ≡ 1) ↔ ((counts_wrong j ≡ true) × NoneOf (before 1 (job_refusals j)))
  refused-1 = answers (job_refusals j) 1 tt tt

  pub refused-3 : (first_refusal (job_refusals j) ≡ 3) ↔ ((lens_refused j ≡ true) × NoneOf (before 3 (job_refusals j)))
  refused-3 = answers (job_refusals j) 3 tt tt

  pub refused-4 : (first_refusal (job_refusals j) ≡ 4) ↔ ((variables_refused j ≡ true) × NoneOf (before 4 (job_refusals j)))
  refused-4 = answers (job_refusals j) 4 tt tt

  pub refused-17 : (first_refusal (job_refusals j) ≡ 17) ↔ ((followers_refused j ≡ true) × NoneOf (before 17 (job_refusals j)))
  refused-17 = answers (job_refusals j) 17 tt tt

  pub refused-5 : (first_refusal (job_refusals j) ≡ 5) ↔ ((operands_refused j ≡ true) × NoneOf (before 5 (job_refusals j)))
  refused-5 = answers (job_refusals j) 5 tt tt

  pub refused-6 : (first_refusal (job_refusals j) ≡ 6) ↔ ((settings_refused j ≡ true) × NoneOf (before 6 (job_refusals j)))
  refused-6 = answers (job_refusals j) 6 tt tt

  pub refused-7 : (first_refusal (job_refusals j) ≡ 7) ↔ ((no_active_variable j ≡ true) × NoneOf (before 7 (job_refusals j)))
  refused-7 = answers (job_refusals j) 7 tt tt

  pub refused-8 : (first_refusal (job_refusals j) ≡ 8) ↔ ((no_operand j ≡ true) × NoneOf (before 8 (job_refusals j)))
  refused-8 = answers (job_refusals j) 8 tt tt
