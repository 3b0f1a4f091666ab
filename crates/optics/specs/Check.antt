-- What refusal 3 lets through: "Radius NaN; conic not finite; thickness not finite or beyond ±1e9; pupil or semi-diameter not above 0 and up to 1e9;
-- index not above 0 and up to 10." Only used entries are tested. Definitions only.
use Rattle.std.specs.Prelude.{ℕ, List, Bool, not, ◌&&◌, Float}
use Rattle.std.specs.Float.{binary64}
use Rattle.std.specs.Float.Ieee.{neg, lt, le, is_nan, of_bits}
use Rattle.floats.specs.Basic.{finite_of}
use Rattle.floats.specs.Constants.{zero64}
use Rattle.lists.specs.All.{all_below}
use Rattle.optics.specs.Types.{surface_at, slot_index}
use Rattle.optics.specs.declared.types.OpticalPrescription.{OpticalPrescription}
use Rattle.optics.specs.declared.types.OpticalSurface.{OpticalSurface}

-- 1e9 and 10
abbrev pub billion : Float
billion = of_bits binary64 0x41cd_cd65_0000_0000

abbrev pub ten : Float
ten = of_bits binary64 0x4024_0000_0000_0000

-- what "not finite or beyond ±1e9" does not refuse
unfoldable pub within : Float → Bool
within x = finite_of x && (le (neg billion) x && le x billion)

-- what "not above 0 and up to" the top does not refuse
unfoldable pub above_zero_up_to : (top : Float) → Float → Bool
above_zero_up_to top x = lt zero64 x && le x top

abbrev pub pupil_taken : Float → Bool
pupil_taken x = above_zero_up_to billion x

abbrev pub index_taken : Float → Bool
index_taken x = above_zero_up_to ten x

unfoldable pub surface_taken : OpticalSurface → Bool
surface_taken s = not (is_nan s.radius_mm) && finite_of s.conic_constant && within s.thickness_mm && above_zero_up_to billion s.semi_diameter_mm

abbrev pub surfaces_taken : List OpticalSurface → ℕ → Bool
surfaces_taken surfaces count = all_below (λ (i : ℕ). surface_taken (surface_at surfaces i)) count

-- the indices of surface i in every used slot, and those of every used surface
abbrev pub row_taken : List Float → (slots i : ℕ) → Bool
row_taken indices slots i = all_below (λ (w : ℕ). index_taken (slot_index indices w i)) slots

abbrev pub indices_taken : List Float → (slots count : ℕ) → Bool
indices_taken indices slots count = all_below (row_taken indices slots) count

unfoldable pub lens_taken : OpticalPrescription → Bool
lens_taken p =
    pupil_taken p.entrance_pupil_diameter_mm
    && surfaces_taken p.surfaces p.surface_count
    && indices_taken p.indices p.slot_count p.surface_count
