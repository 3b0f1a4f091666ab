-- A prescription as it is handed in becomes one as it is kept: "unused entries .. are zero". Admission keeps it so; `evaluate` and `trace` take a lens as it is
-- handed in, and look at no unused entry. Definitions only.
use Rattle.std.specs.Prelude.{ℕ, ◌/◌, ◌%◌, Bool, ◌&&◌, List, leb, ltb, get_or, Float}
use Rattle.std.specs.Float.{nan}
use Rattle.floats.specs.Constants.{zero64}
use Rattle.lists.specs.Kept.{kept, below}
use Rattle.optics.specs.Types.{zero_surface, surface_at}
use Rattle.optics.specs.declared.types.OpticalPrescription.{OpticalPrescription}
use Rattle.optics.specs.declared.types.OpticalSurface.{OpticalSurface}

-- "at most 16 surfaces, 1 to 4 wavelength slots"
abbrev pub lens_counts_taken : (surfaces slots : ℕ) → Bool
lens_counts_taken surfaces slots = leb surfaces 16 && leb 1 slots && leb slots 4

-- entry k of the indices is that of surface k / 4 in slot k % 4
abbrev pub index_used : (count slots : ℕ) → ℕ → Bool
index_used count slots k = ltb (k / 4) count && ltb (k % 4) slots

abbrev pub kept_surfaces : (count : ℕ) → List OpticalSurface → List OpticalSurface
kept_surfaces count surfaces = kept (below count) (surface_at surfaces) zero_surface 16

abbrev pub kept_indices : (count slots : ℕ) → List Float → List Float
kept_indices count slots indices = kept (index_used count slots) (λ (k : ℕ). get_or indices k nan) zero64 64

abbrev pub kept_prescription : OpticalPrescription → OpticalPrescription
kept_prescription p = record {
  surfaces = kept_surfaces p.surface_count p.surfaces;
  indices = kept_indices p.surface_count p.slot_count p.indices;
  surface_count = p.surface_count;
  slot_count = p.slot_count;
  entrance_pupil_diameter_mm = p.entrance_pupil_diameter_mm;
}
