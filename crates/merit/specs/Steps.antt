-- What inner functions need and ensure. Definitions only: no contract that a caller of the calls sees cites one.
use Rattle.std.specs.Prelude.{◌≡◌, ℕ, ◌<◌, Bool, true, T, ltb}
use Rattle.floats.specs.Sqrt.{sqrt_of}
use Rattle.merit.specs.Operands.{slot_named}
use Rattle.merit.specs.OperandTable.{operand_at}
use Rattle.merit.specs.declared.types.MeritFunction.{MeritFunction}
use Rattle.merit.specs.declared.types.OperandType.{OperandType}
use Rattle.merit.specs.declared.types.OperandType.TheVariants.{EffectiveFocalLength, WorkingFNumber, TotalTrack, BackFocalLength, ParaxialMagnification}
use Rattle.merit.specs.declared.types.OperandType.TheVariants.{MinCenterThickness, MaxCenterThickness, MinEdgeThickness}
use Rattle.merit.specs.declared.types.WeightRoot.{WeightRoot}

-- the slot that operand n names
abbrev pub slot_of : MeritFunction → ℕ → ℕ
slot_of f n = slot_named (operand_at f n).operand_type

-- an operand that names a slot names one of the four
abbrev pub slot_known : OperandType → Bool
slot_known (EffectiveFocalLength w) = ltb w 4
slot_known (WorkingFNumber w) = ltb w 4
slot_known TotalTrack = true
slot_known (BackFocalLength w) = ltb w 4
slot_known (ParaxialMagnification w) = ltb w 4
slot_known (MinCenterThickness i limit) = true
slot_known (MaxCenterThickness i limit) = true
slot_known (MinEdgeThickness i limit) = true

abbrev pub SlotsKnown : MeritFunction → Type 0
SlotsKnown f = (n : ℕ) → n < f.operand_count → T (slot_known (operand_at f n).operand_type)

abbrev pub RootKnown : WeightRoot → Type 0
RootKnown k = k.root ≡ sqrt_of k.weight
