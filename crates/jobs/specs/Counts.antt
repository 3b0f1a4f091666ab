-- What refusal 1 lets through, count by count. Assumes nothing.
use Rattle.std.specs.Prelude.{◌≡◌, true, ◌&&◌, ◌≤◌, leb}
use Rattle.std.proofs.Math.Bool.{and-eq-true_iff}
use Rattle.std.proofs.Common.{leb-true}
use Rattle.optics.specs.Kept.{lens_counts_taken}
use Rattle.jobs.specs.declared.types.Job.{Job}
use Rattle.jobs.specs.Checks.{counts_taken}

pub record Counts (j : Job) : Type 0 where
  pub surfaces : j.prescription.surface_count ≤ 16
  pub some_slot : 1 ≤ j.prescription.slot_count
  pub slots : j.prescription.slot_count ≤ 4
  pub variables : j.variables.variable_count ≤ 8
  pub operands : j.merit_function.operand_count ≤ 12

pub counts : (j : Job) → counts_taken j ≡ true → Counts j
counts j e =
    let p = (and-eq-true_iff (lens_counts_taken j.prescription.surface_count j.prescription.slot_count && leb j.variables.variable_count 8)
    (leb j.merit_function.operand_count 12)).0 e in
    let q = (and-eq-true_iff (lens_counts_taken j.prescription.surface_count j.prescription.slot_count) (leb j.variables.variable_count 8)).0
    p.0 in
    let r = (and-eq-true_iff (leb j.prescription.surface_count 16 && leb 1 j.prescription.slot_count) (leb j.prescription.slot_count 4)).0
    q.0 in
    let s = (and-eq-true_iff (leb j.prescription.surface_count 16) (leb 1 j.prescription.slot_count)).0 r.0 in
    record {
      surfaces = leb-true _ _ s.0;
      some_slot = leb-true _ _ s.1;
      slots = leb-true _ _ r.1;
      variables = leb-true _ _ q.1;
      operands = leb-true _ _ p.1;
    }
