-- What refusal 5 lets through: "Operand with an absent slot, target or limit not finite or beyond ±1e9, weight negative or not finite." Definitions only.
use Rattle.std.specs.Prelude.{ℕ, Bool, true, not, ◌&&◌, ltb, Float}
use Rattle.std.specs.Float.Ieee.{lt}
use Rattle.floats.specs.Basic.{finite_of}
use Rattle.floats.specs.Constants.{zero64}
use Rattle.lists.specs.All.{all_below}
use Rattle.optics.specs.Check.{within}
use Rattle.merit.specs.OperandTable.{operand_at}
use Rattle.merit.specs.declared.types.MeritFunction.{MeritFunction}
use Rattle.merit.specs.declared.types.MeritOperand.{MeritOperand}
use Rattle.merit.specs.declared.types.OperandType.{OperandType}
use Rattle.merit.specs.declared.types.OperandType.TheVariants.{EffectiveFocalLength, WorkingFNumber, TotalTrack, BackFocalLength, ParaxialMagnification}
use Rattle.merit.specs.declared.types.OperandType.TheVariants.{MinCenterThickness, MaxCenterThickness, MinEdgeThickness}

-- its slot is one of those that there are, or its limit is within; a surface or successor that is absent is taken
unfoldable pub kind_taken : (slots : ℕ) → OperandType → Bool
kind_taken slots (EffectiveFocalLength w) = ltb w slots
kind_taken slots (WorkingFNumber w) = ltb w slots
kind_taken slots TotalTrack = true
kind_taken slots (BackFocalLength w) = ltb w slots
kind_taken slots (ParaxialMagnification w) = ltb w slots
kind_taken slots (MinCenterThickness i limit) = within limit
kind_taken slots (MaxCenterThickness i limit) = within limit
kind_taken slots (MinEdgeThickness i limit) = within limit

-- -0.0 is not negative
unfoldable pub weight_taken : Float → Bool
weight_taken x = finite_of x && not (lt x zero64)

unfoldable pub operand_taken : (slots : ℕ) → MeritOperand → Bool
operand_taken slots o = kind_taken slots o.operand_type && within o.target && weight_taken o.weight

abbrev pub operands_taken : (slots : ℕ) → MeritFunction → Bool
operands_taken slots f = all_below (λ (n : ℕ). operand_taken slots (operand_at f n)) f.operand_count
