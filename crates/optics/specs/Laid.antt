-- What a laid lens is to the trace: its surfaces, and in a slot the indices behind them and the properties. Definitions only.
use Rattle.std.specs.Prelude.{ℕ, Float, Option}
use Rattle.optics.specs.Types.{flat_surface, slot_index}
use Rattle.optics.specs.Properties.{paraxial_of}
use Rattle.optics.specs.declared.lens.FlatSurfaces.{FlatSurfaces}
use Rattle.optics.specs.declared.lens.LaidLens.{LaidLens}
use Rattle.optics.specs.declared.types.OpticalSurface.{OpticalSurface}
use Rattle.optics.specs.declared.types.ParaxialProperties.{ParaxialProperties}

abbrev pub laid_surface : FlatSurfaces → ℕ → OpticalSurface
laid_surface s = flat_surface s.flat.now

abbrev pub lens_surface : LaidLens → ℕ → OpticalSurface
lens_surface lens = laid_surface lens.surfaces

abbrev pub lens_index : LaidLens → (w : ℕ) → ℕ → Float
lens_index lens w = slot_index lens.indices.now w

abbrev pub lens_paraxial : LaidLens → (w : ℕ) → Option ParaxialProperties
lens_paraxial lens w = paraxial_of (lens_surface lens) (lens_index lens w) lens.pupil lens.surfaces.count
