-- What callers may use of refusal 5. Assumes nothing.
use Rattle.std.specs.Prelude.{ℕ, ◌≤◌, ◌<◌, ◌&&◌, T, ltb}
use Rattle.std.proofs.Common.{arith, ltb→lt, lt-ltb}
use Rattle.std.specs.Float.Ieee.Fits.{and_l}
use Rattle.lists.specs.All.{all-at}
use Rattle.optics.specs.Check.{within}
use Rattle.merit.specs.OperandTable.{operand_at}
use Rattle.merit.specs.Check.{kind_taken, weight_taken, operand_taken, operands_taken}
use Rattle.merit.specs.Operands.{slot_named}
use Rattle.merit.specs.Steps.{slot_known, SlotsKnown}
use Rattle.merit.specs.declared.types.MeritFunction.{MeritFunction}
use Rattle.merit.specs.declared.types.OperandType.{OperandType}
use Rattle.merit.specs.declared.types.OperandType.TheVariants.{EffectiveFocalLength, WorkingFNumber, TotalTrack, BackFocalLength, ParaxialMagnification}
use Rattle.merit.specs.declared.types.OperandType.TheVariants.{MinCenterThickness, MaxCenterThickness, MinEdgeThickness}

module _ (slots : ℕ) (f : MeritFunction) (taken : T (operands_taken slots f)) (n : ℕ) (h : n < f.operand_count) where
  -- an operand in use that is taken has a kind that is
  pub kind-taken : T (kind_taken slots (operand_at f n).operand_type)
  unfolding operand_taken
  kind-taken =
      let o = operand_at f n in
      let t = all-at (λ (n : ℕ). operand_taken slots (operand_at f n)) f.operand_count n taken h in
      and_l (kind_taken slots o.operand_type) (within o.target)
      (and_l (kind_taken slots o.operand_type && within o.target) (weight_taken o.weight) t)

-- a kind that is taken names a slot that there is, or none
pub slot-below : (slots : ℕ) (kind : OperandType) → T (kind_taken slots kind) → slot_named kind < 4 → slot_named kind < slots
unfolding kind_taken
slot-below slots (EffectiveFocalLength w) t h = ltb→lt w slots t
slot-below slots (WorkingFNumber w) t h = ltb→lt w slots t
slot-below slots TotalTrack t h = absurd (omega arith)
slot-below slots (BackFocalLength w) t h = ltb→lt w slots t
slot-below slots (ParaxialMagnification w) t h = ltb→lt w slots t
slot-below slots (MinCenterThickness i limit) t h = absurd (omega arith)
slot-below slots (MaxCenterThickness i limit) t h = absurd (omega arith)
slot-below slots (MinEdgeThickness i limit) t h = absurd (omega arith)

-- operands that are taken name slots that there are
module _ (slots : ℕ) (few : slots ≤ 4) where
  known : (w : ℕ) → T (ltb w slots) → T (ltb w 4)
  known w t = let l : w < slots = ltb→lt w slots t in rw (lt-ltb w 4 (omega arith)) tt

  kind-known : (kind : OperandType) → T (kind_taken slots kind) → T (slot_known kind)
  unfolding kind_taken
  kind-known (EffectiveFocalLength w) t = known w t
  kind-known (WorkingFNumber w) t = known w t
  kind-known TotalTrack t = tt
  kind-known (BackFocalLength w) t = known w t
  kind-known (ParaxialMagnification w) t = known w t
  kind-known (MinCenterThickness i limit) t = tt
  kind-known (MaxCenterThickness i limit) t = tt
  kind-known (MinEdgeThickness i limit) t = tt

  pub slots-known : (f : MeritFunction) → T (operands_taken slots f) → SlotsKnown f
  slots-known f t n h = kind-known (operand_at f n).operand_type (kind-taken slots f t n h)
