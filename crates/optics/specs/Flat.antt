-- Surfaces laid flat in a slice, four numbers each. Definitions only.
use Rattle.std.specs.Prelude.{ℕ, zero, suc, List, [], ◌∷◌, ◌++◌, Float}
use Rattle.optics.specs.Types.{surface_at}
use Rattle.optics.specs.declared.types.OpticalSurface.{OpticalSurface}

abbrev pub numbers_of : OpticalSurface → List Float
numbers_of s = s.radius_mm ∷ s.conic_constant ∷ s.thickness_mm ∷ s.semi_diameter_mm ∷ []

-- the numbers of the first surfaces
unfoldable pub laid_flat : List OpticalSurface → ℕ → List Float
laid_flat surfaces zero = []
laid_flat surfaces (suc k) = laid_flat surfaces k ++ numbers_of (surface_at surfaces k)
