-- What callers may use of the tests of `Check`: each is its parts, and back. Assumes nothing.
use Rattle.std.specs.Prelude.{◌≡◌, refl, ℕ, ◌<◌, Bool, true, false, not, ◌&&◌, T, Float}
use Rattle.std.specs.Float.{nan, inf, fin}
use Rattle.std.specs.Float.Ieee.{neg, lt, le, eq, is_nan, of_bits}
use Rattle.std.specs.Float.Ieee.Fits.{and_i, and_l, and_r}
use Rattle.floats.specs.Basic.{finite_of}
use Rattle.floats.specs.Constants.{zero64}
use Rattle.floatlaws.specs.CallerLaws.{finite-test, test-finite}
use Rattle.floatlaws.specs.Fractions.{Finite}
use Rattle.floatlaws.specs.Order.{Number, lt→le, finite-between}
use Rattle.lists.specs.All.{all-at, all_from}
use Rattle.optics.specs.Types.{surface_at, slot_index}
use Rattle.optics.specs.Check.{billion, ten, within, above_zero_up_to, pupil_taken, index_taken, surface_taken, surfaces_taken, row_taken, indices_taken}
use Rattle.optics.specs.Check.{lens_taken}
use Rattle.optics.specs.declared.types.OpticalPrescription.{OpticalPrescription}
use Rattle.optics.specs.declared.types.OpticalSurface.{OpticalSurface}

-- ---- finite and not beyond ±1e9
-- the bounds leave out a NaN and the infinities
pub within-is : (x : Float) → le (neg billion) x && le x billion ≡ within x
unfolding within finite_of le lt eq neg of_bits
within-is nan = refl
within-is (inf true) = refl
within-is (inf false) = refl
within-is (fin s m e) = refl

pub record Within (x : Float) : Type 0 where
  pub finite : Finite x
  pub above : T (le (neg billion) x)
  pub below : T (le x billion)

pub within-parts : (x : Float) → T (within x) → Within x
unfolding within
within-parts x t =
    let f = and_l (finite_of x) (le (neg billion) x && le x billion) t in
    let b = and_r (finite_of x) (le (neg billion) x && le x billion) t in
    record { finite = finite-test x f; above = and_l (le (neg billion) x) (le x billion) b; below = and_r (le (neg billion) x) (le x billion) b }

pub within-from : (x : Float) → T (le (neg billion) x) → T (le x billion) → T (within x)
within-from x a b = rw within-is at (and_i (le (neg billion) x) (le x billion) a b)

-- ---- above 0 and up to a bound
pub record AboveZero (top x : Float) : Type 0 where
  pub above : T (lt zero64 x)
  pub up_to : T (le x top)

pub above-parts : (top x : Float) → T (above_zero_up_to top x) → AboveZero top x
unfolding above_zero_up_to
above-parts top x t = record { above = and_l (lt zero64 x) (le x top) t; up_to = and_r (lt zero64 x) (le x top) t }

pub above_from : (top x : Float) → AboveZero top x → T (above_zero_up_to top x)
unfolding above_zero_up_to
above_from top x p = and_i (lt zero64 x) (le x top) p.above p.up_to

zero-finite : Finite zero64
unfolding of_bits
zero-finite = tt

pub above-finite : (top x : Float) → Finite top → T (above_zero_up_to top x) → Finite x
above-finite top x f t = let p = above-parts top x t in finite-between zero64 x top zero-finite f (lt→le zero64 x p.above) p.up_to

pub ten-finite : Finite ten
unfolding of_bits
ten-finite = tt

-- ---- a surface
pub record SurfaceTaken (s : OpticalSurface) : Type 0 where
  pub radius : Number s.radius_mm
  pub conic : Finite s.conic_constant
  pub thickness : T (within s.thickness_mm)
  pub semi_diameter : T (above_zero_up_to billion s.semi_diameter_mm)

pub surface-parts : (s : OpticalSurface) → T (surface_taken s) → SurfaceTaken s
unfolding surface_taken
surface-parts s t =
    let r = not (is_nan s.radius_mm) in
    let c = finite_of s.conic_constant in
    let w = within s.thickness_mm in
    let d = above_zero_up_to billion s.semi_diameter_mm in
    let rcw = and_l (r && c && w) d t in
    let rc = and_l (r && c) w rcw in
    record {
      radius = and_l r c rc;
      conic = finite-test s.conic_constant (and_r r c rc);
      thickness = and_r (r && c) w rcw;
      semi_diameter = and_r (r && c && w) d t;
    }

pub surface-from : (s : OpticalSurface) → SurfaceTaken s → T (surface_taken s)
unfolding surface_taken
surface-from s p =
    let r = not (is_nan s.radius_mm) in
    let c = finite_of s.conic_constant in
    let w = within s.thickness_mm in
    let d = above_zero_up_to billion s.semi_diameter_mm in
    and_i (r && c && w) d (and_i (r && c) w (and_i r c p.radius (test-finite s.conic_constant p.conic)) p.thickness) p.semi_diameter

-- ---- a prescription, on used entries
pub record LensTaken (p : OpticalPrescription) : Type 0 where
  pub pupil : T (pupil_taken p.entrance_pupil_diameter_mm)
  pub surfaces : (i : ℕ) → i < p.surface_count → T (surface_taken (surface_at p.surfaces i))
  pub indices : (i w : ℕ) → i < p.surface_count → w < p.slot_count → T (index_taken (slot_index p.indices w i))

pub lens-parts : (p : OpticalPrescription) → T (lens_taken p) → LensTaken p
unfolding lens_taken
lens-parts p t =
    let a = pupil_taken p.entrance_pupil_diameter_mm in
    let b = surfaces_taken p.surfaces p.surface_count in
    let c = indices_taken p.indices p.slot_count p.surface_count in
    let row : ℕ → ℕ → Bool = λ i w. index_taken (slot_index p.indices w i) in
    record {
      pupil = and_l a b (and_l (a && b) c t);
      surfaces = λ i h. all-at (λ (i : ℕ). surface_taken (surface_at p.surfaces i)) p.surface_count i (and_r a b (and_l (a && b) c t)) h;
      indices =
          λ i w h l. all-at (row i) p.slot_count w (all-at (row_taken p.indices p.slot_count) p.surface_count i (and_r (a && b) c t) h) l;
    }

pub lens_from : (p : OpticalPrescription) → LensTaken p → T (lens_taken p)
unfolding lens_taken
lens_from p q =
    let a = pupil_taken p.entrance_pupil_diameter_mm in
    let b = surfaces_taken p.surfaces p.surface_count in
    let c = indices_taken p.indices p.slot_count p.surface_count in
    let row : ℕ → ℕ → Bool = λ i w. index_taken (slot_index p.indices w i) in
    and_i (a && b) c
    (and_i a b q.pupil (all_from (λ (i : ℕ). surface_taken (surface_at p.surfaces i)) p.surface_count q.surfaces))
    (all_from (row_taken p.indices p.slot_count) p.surface_count (λ i h. all_from (row i) p.slot_count (λ w l. q.indices i w h l)))
