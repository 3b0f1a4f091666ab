-- A job and its record are one to one, and a job's record holds known kinds only. Assumes nothing.
use Rattle.std.specs.Prelude.{◌≡◌, refl, Bool, true, false, ◌&&◌, List, ℕ, ◌≤◌, ◌<◌, T, ltb, eqb, length, get_or}
use Rattle.std.proofs.Common.{sym, ap, ◌∙◌, arith}
use Rattle.std.specs.Float.Ieee.Fits.{and_i}
use Rattle.lists.specs.Tab.{tab, length-tab, get_or-tab, tab-same, tab-self}
use Rattle.lists.specs.All.{all_below, all_from}
use Rattle.variables.specs.declared.types.Follower.{Follower}
use Rattle.variables.specs.declared.types.Follower.TheVariants.{None, Plus, Minus}
use Rattle.variables.specs.declared.types.VariableDef.{VariableDef}
use Rattle.variables.specs.declared.types.VariableType.{VariableType}
use Rattle.variables.specs.declared.types.VariableType.TheVariants.{Curvature, Thickness, Conic, SemiDiameter}
use Rattle.variables.specs.Active.{no_variable, variable_at}
use Rattle.variables.specs.Kinds.{surface_index}
use Rattle.merit.specs.declared.types.MeritOperand.{MeritOperand}
use Rattle.merit.specs.declared.types.OperandType.{OperandType}
use Rattle.merit.specs.declared.types.OperandType.TheVariants.{EffectiveFocalLength, WorkingFNumber, TotalTrack, BackFocalLength, ParaxialMagnification}
use Rattle.merit.specs.declared.types.OperandType.TheVariants.{MinCenterThickness, MaxCenterThickness, MinEdgeThickness}
use Rattle.merit.specs.OperandTable.{no_operand, operand_at}
use Rattle.jobs.specs.declared.types.Job.{Job}
use Rattle.jobs.specs.declared.types.JobRequest.{JobRequest}
use Rattle.jobs.specs.declared.types.Method.{Method}
use Rattle.jobs.specs.declared.types.Method.TheVariants.{Damped, MultiStart, Annealing}
use Rattle.jobs.specs.Filled.{filled}
use Rattle.jobs.specs.Kept.{kept_job, job_from}
use Rattle.jobs.specs.Entries.{variable_kind, variable_type, one_if, variable_record, variable_of, operand_kind, slot_or_surface, limit_of, slot_type}
use Rattle.jobs.specs.Entries.{surface_type}
use Rattle.jobs.specs.Entries.{follows_of, follower_surface, follower_of}
use Rattle.jobs.specs.Entries.{operand_type, operand_record, operand_of, no_variable_record, no_operand_record, variable_known, operand_known}
use Rattle.jobs.specs.Records.{method_kind, settings_record, method, kind_of, record_of, variable_record_at, operand_record_at, job_of, known_kinds}

-- ---- one variable, one operand, the settings
type-back : (t : VariableType) → variable_type (variable_kind t) (surface_index t) ≡ t
unfolding variable_type
type-back (Curvature i) = refl
type-back (Thickness i) = refl
type-back (Conic i) = refl
type-back (SemiDiameter i) = refl

mark-back : (b : Bool) → eqb (one_if b) 1 ≡ b
mark-back true = refl
mark-back false = refl

follower-back : (f : Follower) → follower_of (follows_of f) (follower_surface f) ≡ f
unfolding follower_of
follower-back None = refl
follower-back (Plus i) = refl
follower-back (Minus i) = refl

variable-back : (d : VariableDef) → variable_of (variable_record d) ≡ d
variable-back d = λ i. record {
  var_type = type-back d.var_type i;
  min_value = d.min_value;
  max_value = d.max_value;
  step_size = d.step_size;
  enabled = mark-back d.enabled i;
  follower = follower-back d.follower i;
}

operand-type-back : (t : OperandType) → operand_type (operand_kind t) (slot_or_surface t) (limit_of t) ≡ t
unfolding slot_type surface_type operand_type
operand-type-back (EffectiveFocalLength w) = refl
operand-type-back (WorkingFNumber w) = refl
operand-type-back TotalTrack = refl
operand-type-back (BackFocalLength w) = refl
operand-type-back (ParaxialMagnification w) = refl
operand-type-back (MinCenterThickness i limit) = refl
operand-type-back (MaxCenterThickness i limit) = refl
operand-type-back (MinEdgeThickness i limit) = refl

operand-back : (o : MeritOperand) → operand_of (operand_record o) ≡ o
operand-back o = λ i. record { operand_type = operand-type-back o.operand_type i; target = o.target; weight = o.weight }

method-back : (m : Method) → method (method_kind m) (settings_record m) ≡ m
unfolding method
method-back (Damped c) = refl
method-back (MultiStart c) = refl
method-back (Annealing c) = refl

-- ---- a list of them
entries-back : {A B : Type 0} (there : A → B) (back : B → A) (l : List A) (n : ℕ) (d : A) (e : B) → ((a : A) → back (there a) ≡ a) → length l ≡ n
    → tab (λ (i : ℕ). back (get_or (tab (λ (k : ℕ). there (get_or l k d)) n) i e)) n ≡ l
entries-back there back l n d e h m =
    tab-same (λ (i : ℕ). back (get_or (tab (λ (k : ℕ). there (get_or l k d)) n) i e)) (λ (i : ℕ). get_or l i d) n
    (λ i b. ap back (get_or-tab (λ (k : ℕ). there (get_or l k d)) n i e b) ∙ h (get_or l i d))
    ∙ ap (tab (λ (i : ℕ). get_or l i d)) (sym m)
    ∙ tab-self l d

-- the arrays have their lengths
pub record Full (j : Job) : Type 0 where
  pub variables : length j.variables.variables ≡ 8
  pub operands : length j.merit_function.operands ≡ 12

full-kept : (j : Job) → Full (kept_job j)
full-kept j = record { variables = length-tab _ 8; operands = length-tab _ 12 }

-- ---- the whole job
pub job-back : (j : Job) → Full j → job_of (kind_of j) (record_of j) ≡ j
job-back j f = λ i. record {
  prescription = j.prescription;
  variables =
      record {
        variables = entries-back variable_record variable_of j.variables.variables 8 no_variable no_variable_record variable-back f.variables i;
        variable_count = j.variables.variable_count;
      };
  merit_function = record {
    operands = entries-back operand_record operand_of j.merit_function.operands 12 no_operand no_operand_record operand-back f.operands i;
    operand_count = j.merit_function.operand_count;
  };
  method = method-back j.method i;
}

pub request-back : (r : JobRequest) → job_of (kind_of (job_from r)) (record_of (job_from r)) ≡ job_from r
request-back r = job-back (job_from r) (full-kept (filled r))

-- record and job are one to one
pub one-record : (a b : Job) → Full a → Full b → kind_of a ≡ kind_of b → record_of a ≡ record_of b → a ≡ b
one-record a b f g k e = sym (job-back a f) ∙ (λ i. job_of (k i) (e i)) ∙ job-back b g

-- ---- known kinds
variable-known : (d : VariableDef) → T (variable_known (variable_record d))
variable-known d =
    let k = ltb (variable_kind d.var_type) 4 in
    let m = ltb (one_if d.enabled) 2 in
    and_i (k && m) (ltb (follows_of d.follower) 3) (and_i k m (kind d.var_type) (mark d.enabled)) (sign d.follower)
  where
    kind : (t : VariableType) → T (ltb (variable_kind t) 4)
    kind (Curvature i) = tt
    kind (Thickness i) = tt
    kind (Conic i) = tt
    kind (SemiDiameter i) = tt

    mark : (b : Bool) → T (ltb (one_if b) 2)
    mark true = tt
    mark false = tt

    sign : (f : Follower) → T (ltb (follows_of f) 3)
    sign None = tt
    sign (Plus i) = tt
    sign (Minus i) = tt

operand_kind-below : (t : OperandType) → T (ltb (operand_kind t) 8)
operand_kind-below (EffectiveFocalLength w) = tt
operand_kind-below (WorkingFNumber w) = tt
operand_kind-below TotalTrack = tt
operand_kind-below (BackFocalLength w) = tt
operand_kind-below (ParaxialMagnification w) = tt
operand_kind-below (MinCenterThickness i limit) = tt
operand_kind-below (MaxCenterThickness i limit) = tt
operand_kind-below (MinEdgeThickness i limit) = tt

module _ (j : Job) where
  variable-at : (i : ℕ) → i < 8 → variable_record_at (record_of j) i ≡ variable_record (variable_at j.variables i)
  variable-at i h = get_or-tab (λ (i : ℕ). variable_record (variable_at j.variables i)) 8 i no_variable_record h

  operand-at : (i : ℕ) → i < 12 → operand_record_at (record_of j) i ≡ operand_record (operand_at j.merit_function i)
  operand-at i h = get_or-tab (λ (i : ℕ). operand_record (operand_at j.merit_function i)) 12 i no_operand_record h

  pub record-known : j.variables.variable_count ≤ 8 → j.merit_function.operand_count ≤ 12 → T (known_kinds (record_of j))
  record-known m n =
      and_i (all_below (λ (i : ℕ). variable_known (variable_record_at (record_of j) i)) j.variables.variable_count)
      (all_below (λ (i : ℕ). operand_known (operand_record_at (record_of j) i)) j.merit_function.operand_count)
      (all_from _ _ (λ i h. rw (variable-at i (omega arith)) (variable-known (variable_at j.variables i))))
      (all_from _ _ (λ i h. rw (operand-at i (omega arith)) (operand_kind-below (operand_at j.merit_function i).operand_type)))
