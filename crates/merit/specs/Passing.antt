-- What a call that is not refused has passed. Definitions only.
use Rattle.std.specs.Prelude.{◌≡◌, ℕ, ◌≤◌, ◌<◌, T}
use Rattle.optics.specs.Check.{lens_taken}
use Rattle.optics.specs.declared.types.OpticalPrescription.{OpticalPrescription}
use Rattle.merit.specs.Check.{operands_taken}
use Rattle.merit.specs.declared.types.MeritFunction.{MeritFunction}

module _ (p : OpticalPrescription) (f : MeritFunction) where
  -- what an evaluation that is not refused has passed
  pub record Evaluable : Type 0 where
    pub surfaces : p.surface_count ≤ 16
    pub slots : p.slot_count ≤ 4
    pub operands : f.operand_count ≤ 12
    pub lens : T (lens_taken p)
    pub taken : T (operands_taken p.slot_count f)

module _ (p : OpticalPrescription) (slot rows : ℕ) where
  -- what a trace that is not refused has passed
  pub record Traceable : Type 0 where
    pub surfaces : p.surface_count ≤ 16
    pub row : rows ≡ p.surface_count
    pub lens : T (lens_taken p)
    pub there : slot < p.slot_count
    pub below : slot < 4
