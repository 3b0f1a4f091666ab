-- Two requests make one job exactly when they ask for the same. Assumes nothing.
use Rattle.std.specs.Prelude.{◌≡◌, true, ◌↔◌, ℕ, ◌+◌, ◌*◌, ◌/◌, ◌%◌, ◌≤◌, ltb, get_or}
use Rattle.std.proofs.Common.{sym, ap, ◌∙◌, arith, lt-ltb, ltb-true}
use Rattle.std.proofs.Math.Bool.{and-eq-true_iff}
use Rattle.std.specs.Float.{nan}
use Rattle.lists.specs.Kept.{kept, below, kept_same, kept-agrees}
use Rattle.optics.specs.Types.{surface_at, slot_index}
use Rattle.optics.specs.KeptLaws.{index-used}
use Rattle.optics.specs.Kept.{index_used, kept_surfaces, kept_indices, kept_prescription}
use Rattle.optics.specs.declared.types.OpticalPrescription.{OpticalPrescription}
use Rattle.variables.specs.Active.{variable_at}
use Rattle.merit.specs.OperandTable.{operand_at}
use Rattle.jobs.specs.declared.types.DlsConfig.{DlsConfig}
use Rattle.jobs.specs.declared.types.DlsRequest.{DlsRequest}
use Rattle.jobs.specs.declared.types.Job.{Job}
use Rattle.jobs.specs.declared.types.JobRequest.{JobRequest}
use Rattle.jobs.specs.declared.types.MethodRequest.{MethodRequest}
use Rattle.jobs.specs.declared.types.MethodRequest.TheVariants.{Damped, MultiStart, Annealing}
use Rattle.jobs.specs.declared.types.MultiStartConfig.{MultiStartConfig}
use Rattle.jobs.specs.declared.types.SimulatedAnnealingConfig.{SimulatedAnnealingConfig}
use Rattle.jobs.specs.Defaults.{damped_defaults, local_defaults, multi_start_defaults, annealing_defaults}
use Rattle.jobs.specs.Checks.{counts_taken}
use Rattle.jobs.specs.Counts.{Counts, counts}
use Rattle.jobs.specs.Filled.{filled, dls_of, multi_start_of, annealing_of, method_of}
use Rattle.jobs.specs.Kept.{zero_variable, zero_operand, kept_variables, kept_operands, job_from}
use Rattle.jobs.specs.Same.{SamePrescription, SameDls, SameMethod, SameJob}

-- ---- the prescription
module _ (a b : OpticalPrescription) where
  prescription-kept : SamePrescription a b → kept_prescription a ≡ kept_prescription b
  prescription-kept s = λ i. record {
    surfaces = surfaces i;
    indices = indices i;
    surface_count = s.surface_count i;
    slot_count = s.slot_count i;
    entrance_pupil_diameter_mm = s.pupil i;
  }
    where
      surfaces : kept_surfaces a.surface_count a.surfaces ≡ kept_surfaces b.surface_count b.surfaces
      surfaces =
          kept_same (below a.surface_count) (surface_at a.surfaces) (surface_at b.surfaces) _ 16 (λ i h u. s.surface i (ltb-true i _ u))
          ∙ ap (λ (n : ℕ). kept_surfaces n b.surfaces) s.surface_count

      at : (k : ℕ) → index_used a.surface_count a.slot_count k ≡ true → get_or a.indices k nan ≡ get_or b.indices k nan
      at k u =
          let e : slot_index a.indices (k % 4) (k / 4) ≡ slot_index b.indices (k % 4) (k / 4) =
          s.index (k / 4) (k % 4) (ltb-true _ _ ((and-eq-true_iff (ltb (k / 4) _) (ltb (k % 4) _)).0 u).0)
          (ltb-true _ _ ((and-eq-true_iff (ltb (k / 4) _) (ltb (k % 4) _)).0 u).1) in
          let same : (k / 4) * 4 + k % 4 ≡ k = omega arith in
          rw same at e

      indices : kept_indices a.surface_count a.slot_count a.indices ≡ kept_indices b.surface_count b.slot_count b.indices
      indices =
          kept_same (index_used a.surface_count a.slot_count) (λ (k : ℕ). get_or a.indices k nan) (λ (k : ℕ). get_or b.indices k nan) _ 64
          (λ k h u. at k u)
          ∙ (λ i. kept_indices (s.surface_count i) (s.slot_count i) b.indices)

  prescription-same : a.surface_count ≤ 16 → a.slot_count ≤ 4 → kept_prescription a ≡ kept_prescription b → SamePrescription a b
  prescription-same m n e = record {
    surface_count = counts;
    slot_count = slots;
    pupil = ap (λ (p : OpticalPrescription). p.entrance_pupil_diameter_mm) e;
    surface = λ i h. kept-agrees (below a.surface_count) (surface_at a.surfaces) (surface_at b.surfaces) _ 16 i surfaces (omega arith) (lt-ltb i _ h);
    index = λ i w h l.
        kept-agrees (index_used a.surface_count a.slot_count) (λ (k : ℕ). get_or a.indices k nan) (λ (k : ℕ). get_or b.indices k nan) _ 64
        (i * 4 + w) indices (omega arith)
        (index-used a.surface_count a.slot_count i w n h l);
  }
    where
      counts : a.surface_count ≡ b.surface_count
      counts = ap (λ (p : OpticalPrescription). p.surface_count) e

      slots : a.slot_count ≡ b.slot_count
      slots = ap (λ (p : OpticalPrescription). p.slot_count) e

      surfaces : kept_surfaces a.surface_count a.surfaces ≡ kept_surfaces a.surface_count b.surfaces
      surfaces = ap (λ (p : OpticalPrescription). p.surfaces) e ∙ ap (λ (n : ℕ). kept_surfaces n b.surfaces) (sym counts)

      indices : kept_indices a.surface_count a.slot_count a.indices ≡ kept_indices a.surface_count a.slot_count b.indices
      indices = ap (λ (p : OpticalPrescription). p.indices) e ∙ (λ i. kept_indices (sym counts i) (sym slots i) b.indices)

-- ---- settings
dls-same : (d : DlsConfig) (a b : DlsRequest) → dls_of d a ≡ dls_of d b → SameDls d a b
dls-same d a b p = record {
  iterations = ap (λ (c : DlsConfig). c.max_iterations) p;
  damping = ap (λ (c : DlsConfig). c.initial_damping) p;
  merit_tolerance = ap (λ (c : DlsConfig). c.relative_merit_tolerance) p;
  gradient_tolerance = ap (λ (c : DlsConfig). c.gradient_tolerance) p;
  relative_step = ap (λ (c : DlsConfig). c.finite_difference_relative_step) p;
}

method-kept : (a b : MethodRequest) → SameMethod a b → method_of a ≡ method_of b
method-kept (Damped a) (Damped b) s = cc
method-kept (MultiStart a) (MultiStart b) s = cc
method-kept (Annealing a) (Annealing b) s = cc
method-kept (Damped a) (MultiStart b) s = absurd s
method-kept (Damped a) (Annealing b) s = absurd s
method-kept (MultiStart a) (Damped b) s = absurd s
method-kept (MultiStart a) (Annealing b) s = absurd s
method-kept (Annealing a) (Damped b) s = absurd s
method-kept (Annealing a) (MultiStart b) s = absurd s

method-same : (a b : MethodRequest) → method_of a ≡ method_of b → SameMethod a b
method-same (Damped a) (Damped b) e = dls-same damped_defaults a b (cc)
method-same (MultiStart a) (MultiStart b) e =
    let p : multi_start_of multi_start_defaults a ≡ multi_start_of multi_start_defaults b = cc in
    record {
      runs = dls-same local_defaults a.local_dls_config b.local_dls_config (ap (λ (c : MultiStartConfig). c.local_dls_config) p);
      trials = ap (λ (c : MultiStartConfig). c.num_trials) p;
      seed = ap (λ (c : MultiStartConfig). c.seed) p;
    }
method-same (Annealing a) (Annealing b) e =
    let p : annealing_of annealing_defaults a ≡ annealing_of annealing_defaults b = cc in
    record {
      temperature = ap (λ (c : SimulatedAnnealingConfig). c.initial_temperature) p;
      cooling = ap (λ (c : SimulatedAnnealingConfig). c.cooling_rate) p;
      steps = ap (λ (c : SimulatedAnnealingConfig). c.steps_per_temperature) p;
      cycles = ap (λ (c : SimulatedAnnealingConfig). c.max_cooling_cycles) p;
      seed = ap (λ (c : SimulatedAnnealingConfig). c.seed) p;
    }
method-same (Damped a) (MultiStart b) e = let z : ◌≡◌ {A = ℕ} 0 1 = cc in omega arith
method-same (Damped a) (Annealing b) e = let z : ◌≡◌ {A = ℕ} 0 1 = cc in omega arith
method-same (MultiStart a) (Damped b) e = let z : ◌≡◌ {A = ℕ} 0 1 = cc in omega arith
method-same (MultiStart a) (Annealing b) e = let z : ◌≡◌ {A = ℕ} 0 1 = cc in omega arith
method-same (Annealing a) (Damped b) e = let z : ◌≡◌ {A = ℕ} 0 1 = cc in omega arith
method-same (Annealing a) (MultiStart b) e = let z : ◌≡◌ {A = ℕ} 0 1 = cc in omega arith

-- ---- the whole job
pub same-job : (a b : JobRequest) → SameJob a b → job_from a ≡ job_from b
same-job a b s = λ i. record {
  prescription = prescription-kept a.prescription b.prescription s.prescription i;
  variables = record { variables = variables i; variable_count = s.variables.count i };
  merit_function = record { operands = operands i; operand_count = s.operands.count i };
  method = method-kept a.method b.method s.method i;
}
  where
    variables : (kept_variables a.variables).variables ≡ (kept_variables b.variables).variables
    variables =
        kept_same (below a.variables.variable_count) (variable_at a.variables) (variable_at b.variables) zero_variable 8
        (λ i h u. s.variables.variable i (ltb-true i _ u))
        ∙ ap (λ (n : ℕ). kept (below n) (variable_at b.variables) zero_variable 8) s.variables.count

    operands : (kept_operands a.merit_function).operands ≡ (kept_operands b.merit_function).operands
    operands =
        kept_same (below a.merit_function.operand_count) (operand_at a.merit_function) (operand_at b.merit_function) zero_operand 12
        (λ i h u. s.operands.operand i (ltb-true i _ u))
        ∙ ap (λ (n : ℕ). kept (below n) (operand_at b.merit_function) zero_operand 12) s.operands.count

one-job : (a b : JobRequest) → Counts (filled a) → job_from a ≡ job_from b → SameJob a b
one-job a b n e = record {
  prescription = prescription-same a.prescription b.prescription n.surfaces n.slots (ap (λ (j : Job). j.prescription) e);
  variables = record {
    count = variable-count;
    variable =
        λ i h. kept-agrees (below a.variables.variable_count) (variable_at a.variables) (variable_at b.variables) zero_variable 8 i variables
        (omega (arith, n.variables)) (lt-ltb i _ h);
  };
  operands = record {
    count = operand-count;
    operand = λ i h.
        kept-agrees (below a.merit_function.operand_count) (operand_at a.merit_function) (operand_at b.merit_function) zero_operand 12 i operands
        (omega (arith, n.operands)) (lt-ltb i _ h);
  };
  method = method-same a.method b.method (ap (λ (j : Job). j.method) e);
}
  where
    variable-count : a.variables.variable_count ≡ b.variables.variable_count
    variable-count = ap (λ (j : Job). j.variables.variable_count) e

    operand-count : a.merit_function.operand_count ≡ b.merit_function.operand_count
    operand-count = ap (λ (j : Job). j.merit_function.operand_count) e

    variables : kept (below a.variables.variable_count) (variable_at a.variables) zero_variable 8
        ≡ kept (below a.variables.variable_count) (variable_at b.variables) zero_variable 8
    variables = ap (λ (j : Job). j.variables.variables) e ∙ ap (λ (n : ℕ). kept (below n) (variable_at b.variables) zero_variable 8) (sym variable-count)

    operands : kept (below a.merit_function.operand_count) (operand_at a.merit_function) zero_operand 12
        ≡ kept (below a.merit_function.operand_count) (operand_at b.merit_function) zero_operand 12
    operands =
        ap (λ (j : Job). j.merit_function.operands) e ∙ ap (λ (n : ℕ). kept (below n) (operand_at b.merit_function) zero_operand 12) (sym operand-count)

-- "naming that default makes the same job"; garbage past the counts makes no other
pub same-exactly : (a b : JobRequest) → counts_taken (filled a) ≡ true → (job_from a ≡ job_from b) ↔ SameJob a b
same-exactly a b e = (one-job a b (counts (filled a) e), same-job a b)
