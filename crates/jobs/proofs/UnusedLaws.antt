-- The record of a job as it is kept has every unused entry zero. Assumes nothing.
use Rattle.std.specs.Prelude.{◌≡◌, refl, false, ℕ, ◌+◌, ◌*◌, ◌<◌, eqb}
use Rattle.std.proofs.Common.{sym, ap, ◌∙◌, subst, true≢false, arith, lt-ltb, le-ltb}
use Rattle.std.specs.Float.{nan}
use Rattle.std.proofs.lemmas.Bool.{eqb-false}
use Rattle.floats.specs.Constants.{zero64}
use Rattle.lists.specs.Kept.{below, kept-unused}
use Rattle.lists.specs.Tab.{get_or-tab}
use Rattle.optics.specs.Kept.{index_used}
use Rattle.optics.specs.KeptLaws.{index-unused}
use Rattle.optics.specs.Types.{no_surface, zero_surface}
use Rattle.variables.specs.Active.{no_variable, variable_at}
use Rattle.variables.specs.declared.types.Follower.{Follower}
use Rattle.variables.specs.declared.types.Follower.TheVariants.{None, Plus, Minus}
use Rattle.variables.specs.declared.types.VariableDef.{VariableDef}
use Rattle.merit.specs.OperandTable.{no_operand, operand_at}
use Rattle.merit.specs.declared.types.MeritOperand.{MeritOperand}
use Rattle.merit.specs.declared.types.OperandType.{OperandType}
use Rattle.merit.specs.declared.types.OperandType.TheVariants.{EffectiveFocalLength, WorkingFNumber, TotalTrack, BackFocalLength, ParaxialMagnification}
use Rattle.merit.specs.declared.types.OperandType.TheVariants.{MinCenterThickness, MaxCenterThickness, MinEdgeThickness}
use Rattle.jobs.specs.declared.types.Job.{Job}
use Rattle.jobs.specs.declared.types.Method.{Method}
use Rattle.jobs.specs.declared.types.Method.TheVariants.{Damped, MultiStart, Annealing}
use Rattle.jobs.specs.Entries.{follows_of, follower_surface, variable_record}
use Rattle.jobs.specs.Entries.{operand_record, operand_kind, slot_or_surface, limit_of, no_variable_record, no_operand_record}
use Rattle.jobs.specs.Kept.{zero_variable, zero_operand, kept_job}
use Rattle.jobs.specs.Records.{method_kind, settings_record, kind_of, record_of}
use Rattle.jobs.specs.Unused.{CleanVariable, CleanOperand, CleanSettings, CleanRecord}

no-limit : (t : OperandType) → operand_kind t < 5 → limit_of t ≡ zero64
no-limit (EffectiveFocalLength w) h = refl
no-limit (WorkingFNumber w) h = refl
no-limit TotalTrack h = refl
no-limit (BackFocalLength w) h = refl
no-limit (ParaxialMagnification w) h = refl
no-limit (MinCenterThickness i limit) h = absurd (true≢false (sym (lt-ltb 5 5 h)))
no-limit (MaxCenterThickness i limit) h = absurd (true≢false (sym (lt-ltb 6 5 h)))
no-limit (MinEdgeThickness i limit) h = absurd (true≢false (sym (lt-ltb 7 5 h)))

unlike : {A : Type 0} (n m : ℕ) → eqb n m ≡ false → n ≡ m → A
unlike n m h e = absurd (eqb-false n m h e)

no-slot : (t : OperandType) → operand_kind t ≡ 2 → slot_or_surface t ≡ 0
no-slot (EffectiveFocalLength w) e = unlike 0 2 refl e
no-slot (WorkingFNumber w) e = unlike 1 2 refl e
no-slot TotalTrack e = refl
no-slot (BackFocalLength w) e = unlike 3 2 refl e
no-slot (ParaxialMagnification w) e = unlike 4 2 refl e
no-slot (MinCenterThickness i limit) e = unlike 5 2 refl e
no-slot (MaxCenterThickness i limit) e = unlike 6 2 refl e
no-slot (MinEdgeThickness i limit) e = unlike 7 2 refl e

no-follower : (f : Follower) → follows_of f ≡ 0 → follower_surface f ≡ 0
no-follower None e = refl
no-follower (Plus i) e = unlike 1 0 refl e
no-follower (Minus i) e = unlike 2 0 refl e

variable-clean : (d : VariableDef) → CleanVariable (variable_record d)
variable-clean d = record { no_follower = no-follower d.follower }

operand-clean : (o : MeritOperand) → CleanOperand (operand_record o)
operand-clean o = record { no_limit = no-limit o.operand_type; no_slot = no-slot o.operand_type }

settings-clean : (m : Method) → CleanSettings (method_kind m) (settings_record m)
settings-clean (Damped c) = record {
  no_trials = λ h. refl;
  no_seed = λ h. refl;
  no_temperature = λ h. refl;
  no_cooling = λ h. refl;
  no_steps = λ h. refl;
  no_cycles = λ h. refl;
  no_iterations = λ e. unlike 1 3 refl e;
  no_damping = λ e. unlike 1 3 refl e;
  no_merit_tolerance = λ e. unlike 1 3 refl e;
  no_gradient_tolerance = λ e. unlike 1 3 refl e;
  no_relative_step = λ e. unlike 1 3 refl e;
}
settings-clean (MultiStart c) = record {
  no_trials = λ h. absurd (h refl);
  no_seed = λ e. unlike 2 1 refl e;
  no_temperature = λ h. refl;
  no_cooling = λ h. refl;
  no_steps = λ h. refl;
  no_cycles = λ h. refl;
  no_iterations = λ e. unlike 2 3 refl e;
  no_damping = λ e. unlike 2 3 refl e;
  no_merit_tolerance = λ e. unlike 2 3 refl e;
  no_gradient_tolerance = λ e. unlike 2 3 refl e;
  no_relative_step = λ e. unlike 2 3 refl e;
}
settings-clean (Annealing c) = record {
  no_trials = λ h. refl;
  no_seed = λ e. unlike 3 1 refl e;
  no_temperature = λ h. absurd (h refl);
  no_cooling = λ h. absurd (h refl);
  no_steps = λ h. absurd (h refl);
  no_cycles = λ h. absurd (h refl);
  no_iterations = λ e. refl;
  no_damping = λ e. refl;
  no_merit_tolerance = λ e. refl;
  no_gradient_tolerance = λ e. refl;
  no_relative_step = λ e. refl;
}

pub record-clean : (j : Job) → CleanRecord (kind_of (kept_job j)) (record_of (kept_job j))
record-clean j = record {
  surfaces = λ i l b. kept-unused (below j.prescription.surface_count) _ zero_surface 16 i no_surface b (le-ltb i j.prescription.surface_count l);
  indices =
      λ i w b c h. kept-unused (index_used j.prescription.surface_count j.prescription.slot_count) _ zero64 64 (i * 4 + w) nan (omega arith)
      (index-unused j.prescription.surface_count j.prescription.slot_count i w c h);
  variables =
      λ i l b. get_or-tab _ 8 i no_variable_record b ∙ ap variable_record
      (kept-unused (below j.variables.variable_count) _ zero_variable 8 i no_variable b (le-ltb i _ l));
  operands =
      λ i l b. get_or-tab _ 12 i no_operand_record b ∙ ap operand_record
      (kept-unused (below j.merit_function.operand_count) _ zero_operand 12 i no_operand b (le-ltb i _ l));
  variable_parts =
      λ i b. subst CleanVariable (sym (get_or-tab (λ (i : ℕ). variable_record (variable_at (kept_job j).variables i)) 8 i no_variable_record b))
      (variable-clean (variable_at (kept_job j).variables i));
  operand_parts =
      λ i b. subst CleanOperand (sym (get_or-tab (λ (i : ℕ). operand_record (operand_at (kept_job j).merit_function i)) 12 i no_operand_record b))
      (operand-clean (operand_at (kept_job j).merit_function i));
  settings = settings-clean j.method;
}
