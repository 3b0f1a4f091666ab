-- Entries of one kind, one after the other, each a list of texts. Definitions only.
use Rattle.std.specs.Prelude.{ℕ, List, [], ◌∷◌, ◌++◌}
use Rattle.optics.specs.declared.types.OpticalSurface.{OpticalSurface}
use Rattle.optics.specs.declared.types.ParaxialRay.{ParaxialRay}
use Rattle.streams.specs.Output.{float_texts}

unfoldable pub all_texts : {A : Type 0} (texts : A → List (List ℕ)) → List A → List (List ℕ)
all_texts texts [] = []
all_texts texts (x ∷ l) = texts x ++ all_texts texts l

-- radius conic thickness semi
abbrev pub surface_texts : OpticalSurface → List (List ℕ)
surface_texts s = float_texts (s.radius_mm ∷ s.conic_constant ∷ s.thickness_mm ∷ s.semi_diameter_mm ∷ [])

-- height slope
abbrev pub ray_texts : ParaxialRay → List (List ℕ)
ray_texts ray = float_texts (ray.y ∷ ray.u ∷ [])
