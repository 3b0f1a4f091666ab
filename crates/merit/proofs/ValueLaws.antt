-- Laws of operands' values for callers. Assumes nothing.
use Rattle.std.specs.Prelude.{◌≡◌, Bool, true, false, cond, List, T, ltb, Float, Option, None}
use Rattle.std.proofs.Math.Path.{refl, ap}
use Prim.Native.Nat.{ℕ, zero, suc, ◌+◌, ◌≤◌, ◌<◌}
use Rattle.std.proofs.Common.{le_refl, arith, ltb→lt}
use Rattle.std.specs.Float.Ieee.{binary64, add}
use Rattle.optics.specs.declared.types.OpticalSurface.{OpticalSurface}
use Rattle.optics.specs.declared.types.ParaxialProperties.{ParaxialProperties}
use Rattle.edges.specs.Edges.{edge_between, edge_of}
use Rattle.merit.specs.Operands.{counted, penalty, of_surface, edge_counted, focal_length, f_number, back_focus, magnification, track, shortfall, excess}
use Rattle.merit.specs.Operands.{slot_named, value_of}
use Rattle.merit.specs.Steps.{slot_known}
use Rattle.merit.specs.declared.types.OperandType.{OperandType}
use Rattle.merit.specs.declared.types.OperandType.TheVariants.{EffectiveFocalLength, WorkingFNumber, TotalTrack, BackFocalLength, ParaxialMagnification}
use Rattle.merit.specs.declared.types.OperandType.TheVariants.{MinCenterThickness, MaxCenterThickness, MinEdgeThickness}

-- a value turns on the trace of the slot that its operand names, and on no other
pub value_same : (earlier : List Float) (slot slot' : ℕ → Option ParaxialProperties) (surface : ℕ → OpticalSurface) (count : ℕ) (kind : OperandType)
    → T (slot_known kind)
    → (slot_named kind < 4 → slot (slot_named kind) ≡ slot' (slot_named kind))
    → value_of earlier slot surface count kind ≡ value_of earlier slot' surface count kind
unfolding value_of
value_same earlier slot slot' surface count (EffectiveFocalLength w) k h = ap (λ (p : Option ParaxialProperties). counted (focal_length p)) (h (ltb→lt w 4 k))
value_same earlier slot slot' surface count (WorkingFNumber w) k h = ap (λ (p : Option ParaxialProperties). counted (f_number p)) (h (ltb→lt w 4 k))
value_same earlier slot slot' surface count TotalTrack k h = refl
value_same earlier slot slot' surface count (BackFocalLength w) k h = ap (λ (p : Option ParaxialProperties). counted (back_focus p)) (h (ltb→lt w 4 k))
value_same earlier slot slot' surface count (ParaxialMagnification w) k h = ap (λ (p : Option ParaxialProperties). counted (magnification p)) (h (ltb→lt w 4 k))
value_same earlier slot slot' surface count (MinCenterThickness i limit) k h = refl
value_same earlier slot slot' surface count (MaxCenterThickness i limit) k h = refl
value_same earlier slot slot' surface count (MinEdgeThickness i limit) k h = refl

-- a value that needs a surface does not turn on what stands in the place of an absent one
pub of-same : {i count : ℕ} {x y : Float} → (i < count → x ≡ y) → of_surface i count x ≡ of_surface i count y
of-same {i} {count} {x} {y} h = go (ltb i count) (ltb→lt i count)
  where
    go : (b : Bool) → (T b → i < count) → cond b (counted x) penalty ≡ cond b (counted y) penalty
    go true k = ap counted (h (k tt))
    go false k = refl

-- a value turns on the surfaces below the count alone
module _ (earlier : List Float) (slot : ℕ → Option ParaxialProperties) (surface surface' : ℕ → OpticalSurface) (count : ℕ)
    (same : (i : ℕ) → i < count → surface i ≡ surface' i) where
  track-below : (n : ℕ) → n ≤ count → track surface n ≡ track surface' n
  unfolding track
  track-below zero h = refl
  track-below (suc n) h = λ j. add binary64 (track-below n (omega arith) j) (same n h j).thickness_mm

  -- where there is a successor, both surfaces are below the count
  edge-below : (i : ℕ) → edge_of surface count i ≡ edge_of surface' count i
  edge-below i = go (ltb (i + 1) count) (ltb→lt (i + 1) count)
    where
      go : (b : Bool) → (T b → i + 1 < count)
          → cond b (edge_between (surface i) (surface (i + 1))) None ≡ cond b (edge_between (surface' i) (surface' (i + 1))) None
      go true k = let l : i + 1 < count = k tt in λ j. edge_between (same i (omega arith) j) (same (i + 1) l j)
      go false k = refl

  pub value-below : (kind : OperandType) → value_of earlier slot surface count kind ≡ value_of earlier slot surface' count kind
  unfolding value_of
  value-below (EffectiveFocalLength w) = refl
  value-below (WorkingFNumber w) = refl
  value-below TotalTrack = ap counted (track-below count (le_refl count))
  value-below (BackFocalLength w) = refl
  value-below (ParaxialMagnification w) = refl
  value-below (MinCenterThickness i limit) = of-same (λ h. ap (λ (s : OpticalSurface). shortfall s.thickness_mm limit) (same i h))
  value-below (MaxCenterThickness i limit) = of-same (λ h. ap (λ (s : OpticalSurface). excess s.thickness_mm limit) (same i h))
  value-below (MinEdgeThickness i limit) = ap (edge_counted limit) (edge-below i)
