-- One variable and one operand in numbers, and read back. Definitions only.
use Rattle.std.specs.Prelude.{ℕ, Bool, cond, ◌&&◌, ltb, eqb, Float}
use Rattle.std.specs.Float.{nan}
use Rattle.floats.specs.Constants.{zero64}
use Rattle.variables.specs.declared.types.Follower.{Follower}
use Rattle.variables.specs.declared.types.Follower.TheVariants.{None, Plus, Minus}
use Rattle.variables.specs.declared.types.VariableDef.{VariableDef}
use Rattle.variables.specs.declared.types.VariableType.{VariableType}
use Rattle.variables.specs.declared.types.VariableType.TheVariants.{Curvature, Thickness, Conic, SemiDiameter}
use Rattle.variables.specs.Kinds.{surface_index}
use Rattle.merit.specs.declared.types.MeritOperand.{MeritOperand}
use Rattle.merit.specs.declared.types.OperandType.{OperandType}
use Rattle.merit.specs.declared.types.OperandType.TheVariants.{EffectiveFocalLength, WorkingFNumber, TotalTrack, BackFocalLength, ParaxialMagnification}
use Rattle.merit.specs.declared.types.OperandType.TheVariants.{MinCenterThickness, MaxCenterThickness, MinEdgeThickness}
use Rattle.jobs.specs.declared.types.OperandRecord.{OperandRecord}
use Rattle.jobs.specs.declared.types.VariableRecord.{VariableRecord}

-- ---- variables: kinds 0 to 3
abbrev pub variable_kind : VariableType → ℕ
variable_kind (Curvature i) = 0
variable_kind (Thickness i) = 1
variable_kind (Conic i) = 2
variable_kind (SemiDiameter i) = 3

unfoldable pub variable_type : (kind i : ℕ) → VariableType
variable_type kind i = cond (eqb kind 0) (Curvature i) (cond (eqb kind 1) (Thickness i) (cond (eqb kind 2) (Conic i) (SemiDiameter i)))

abbrev pub one_if : Bool → ℕ
one_if b = cond b 1 0

-- ---- followers: 0 none, 1 plus, 2 minus, and the surface; 0 where there is none
abbrev pub follows_of : Follower → ℕ
follows_of None = 0
follows_of (Plus i) = 1
follows_of (Minus i) = 2

abbrev pub follower_surface : Follower → ℕ
follower_surface None = 0
follower_surface (Plus i) = i
follower_surface (Minus i) = i

unfoldable pub follower_of : (follows i : ℕ) → Follower
follower_of follows i = cond (eqb follows 0) None (cond (eqb follows 1) (Plus i) (Minus i))

abbrev pub variable_record : VariableDef → VariableRecord
variable_record d = record {
  kind = variable_kind d.var_type;
  surface_index = surface_index d.var_type;
  enabled = one_if d.enabled;
  min_value = d.min_value;
  max_value = d.max_value;
  step_size = d.step_size;
  follows = follows_of d.follower;
  follower = follower_surface d.follower;
}

abbrev pub variable_of : VariableRecord → VariableDef
variable_of r = record {
  var_type = variable_type r.kind r.surface_index;
  min_value = r.min_value;
  max_value = r.max_value;
  step_size = r.step_size;
  enabled = eqb r.enabled 1;
  follower = follower_of r.follows r.follower;
}

-- ---- operands: kinds 0 to 7, each with a slot or a surface, and a limit; 0 where it has none
abbrev pub operand_kind : OperandType → ℕ
operand_kind (EffectiveFocalLength w) = 0
operand_kind (WorkingFNumber w) = 1
operand_kind TotalTrack = 2
operand_kind (BackFocalLength w) = 3
operand_kind (ParaxialMagnification w) = 4
operand_kind (MinCenterThickness i limit) = 5
operand_kind (MaxCenterThickness i limit) = 6
operand_kind (MinEdgeThickness i limit) = 7

abbrev pub slot_or_surface : OperandType → ℕ
slot_or_surface (EffectiveFocalLength w) = w
slot_or_surface (WorkingFNumber w) = w
slot_or_surface TotalTrack = 0
slot_or_surface (BackFocalLength w) = w
slot_or_surface (ParaxialMagnification w) = w
slot_or_surface (MinCenterThickness i limit) = i
slot_or_surface (MaxCenterThickness i limit) = i
slot_or_surface (MinEdgeThickness i limit) = i

abbrev pub limit_of : OperandType → Float
limit_of (EffectiveFocalLength w) = zero64
limit_of (WorkingFNumber w) = zero64
limit_of TotalTrack = zero64
limit_of (BackFocalLength w) = zero64
limit_of (ParaxialMagnification w) = zero64
limit_of (MinCenterThickness i limit) = limit
limit_of (MaxCenterThickness i limit) = limit
limit_of (MinEdgeThickness i limit) = limit

-- the kinds of a slot, or track
unfoldable pub slot_type : (kind w : ℕ) → OperandType
slot_type kind w =
    cond (eqb kind 0) (EffectiveFocalLength w) (cond (eqb kind 1) (WorkingFNumber w)
    (cond (eqb kind 2) TotalTrack (cond (eqb kind 3) (BackFocalLength w) (ParaxialMagnification w))))

-- those of a surface and a limit
unfoldable pub surface_type : (kind i : ℕ) (limit : Float) → OperandType
surface_type kind i limit = cond (eqb kind 5) (MinCenterThickness i limit) (cond (eqb kind 6) (MaxCenterThickness i limit) (MinEdgeThickness i limit))

unfoldable pub operand_type : (kind at : ℕ) (limit : Float) → OperandType
operand_type kind at limit = cond (ltb kind 5) (slot_type kind at) (surface_type kind at limit)

abbrev pub operand_record : MeritOperand → OperandRecord
operand_record o = record {
  kind = operand_kind o.operand_type;
  at = slot_or_surface o.operand_type;
  limit_mm = limit_of o.operand_type;
  target = o.target;
  weight = o.weight;
}

abbrev pub operand_of : OperandRecord → MeritOperand
operand_of r = record { operand_type = operand_type r.kind r.at r.limit_mm; target = r.target; weight = r.weight }

-- the checker's defaults for a read past the end
abbrev pub no_variable_record : VariableRecord
no_variable_record = record {
  kind = 0;
  surface_index = 0;
  enabled = 0;
  min_value = nan;
  max_value = nan;
  step_size = nan;
  follows = 0;
  follower = 0;
}

abbrev pub no_operand_record : OperandRecord
no_operand_record = record { kind = 0; at = 0; limit_mm = nan; target = nan; weight = nan }

-- all its numbers zero
abbrev pub zero_variable_record : VariableRecord
zero_variable_record = record {
  kind = 0;
  surface_index = 0;
  enabled = 0;
  min_value = zero64;
  max_value = zero64;
  step_size = zero64;
  follows = 0;
  follower = 0;
}

abbrev pub zero_operand_record : OperandRecord
zero_operand_record = record { kind = 0; at = 0; limit_mm = zero64; target = zero64; weight = zero64 }

-- a number that is no kind or no sign, or an enabled mark other than 0 and 1, is damage
abbrev pub variable_known : VariableRecord → Bool
variable_known v = ltb v.kind 4 && ltb v.enabled 2 && ltb v.follows 3

abbrev pub operand_known : OperandRecord → Bool
operand_known o = ltb o.kind 8
