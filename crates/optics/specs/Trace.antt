-- The paraxial trace of one wavelength slot: the marginal ray, as `trace_paraxial_marginal` has it. Definitions only.
use Rattle.std.specs.Prelude.{ℕ, zero, suc, List, get_or, Float}
use Rattle.std.specs.Float.{nan, binary64}
use Rattle.std.specs.Float.Ieee.{add, sub, mul, div}
use Rattle.floats.specs.Constants.{zero64, half64, one64}
use Rattle.lists.specs.Tab.{tab}
use Rattle.optics.specs.Curvature.{curvature}
use Rattle.optics.specs.declared.types.ArrivingRay.{ArrivingRay}
use Rattle.optics.specs.declared.types.OpticalSurface.{OpticalSurface}
use Rattle.optics.specs.declared.types.ParaxialRay.{ParaxialRay}

-- "power = (n' - n) × c": n is the index in front of the surface, n' the one behind it
abbrev pub power : (n n' c : Float) → Float
power n n' c = mul binary64 (sub binary64 n' n) c

-- "slope' = (n × slope - height × power) / n'"
abbrev pub slope_after : (n n' slope height p : Float) → Float
slope_after n n' slope height p = div binary64 (sub binary64 (mul binary64 n slope) (mul binary64 height p)) n'

-- "height' = height + thickness × slope'"
abbrev pub height_after : (height thickness slope' : Float) → Float
height_after height thickness slope' = add binary64 height (mul binary64 thickness slope')

-- the slope behind a surface of this radius, with the index n' behind it
abbrev pub slope_behind : (radius n' : Float) → ArrivingRay → Float
slope_behind radius n' a = slope_after a.n n' a.u a.y (power a.n n' (curvature radius))

-- the ray behind a surface of curvature c, as it arrives at the next
abbrev pub ray_behind : (c thickness n' : Float) → ArrivingRay → ArrivingRay
ray_behind c thickness n' a =
    let slope' = slope_after a.n n' a.u a.y (power a.n n' c) in record { y = height_after a.y thickness slope'; u = slope'; n = n' }

-- from one surface to the next
abbrev pub onward : OpticalSurface → (n' : Float) → ArrivingRay → ArrivingRay
onward s n' a = ray_behind (curvature s.radius_mm) s.thickness_mm n' a

-- "The trace starts at height half the pupil diameter, slope 0, index 1"
abbrev pub start : Float → ArrivingRay
start pupil = record { y = mul binary64 pupil half64; u = zero64; n = one64 }

-- the ray as it arrives at surface k, where `surface` gives the surfaces and `index` the slot's indices behind them
unfoldable pub arriving : (surface : ℕ → OpticalSurface) (index : ℕ → Float) (pupil : Float) → ℕ → ArrivingRay
arriving surface index pupil zero = start pupil
arriving surface index pupil (suc k) = onward (surface k) (index k) (arriving surface index pupil k)

abbrev pub ray_of : (height slope : Float) → ParaxialRay
ray_of height slope = record { y = height; u = slope }

-- the record of surface k: the height at it, before the transfer, and the slope behind it
abbrev pub ray_at : (surface : ℕ → OpticalSurface) (index : ℕ → Float) (pupil : Float) → ℕ → ParaxialRay
ray_at surface index pupil k = ray_of (arriving surface index pupil k).y (slope_behind (surface k).radius_mm (index k) (arriving surface index pupil k))

-- the records out of heights and slopes
abbrev pub rays_of : (heights slopes : List Float) → ℕ → List ParaxialRay
rays_of heights slopes count = tab (λ (k : ℕ). ray_of (get_or heights k nan) (get_or slopes k nan)) count

-- what "fills a lent row of height-and-slope records": one for each surface
abbrev pub trace_of : (surface : ℕ → OpticalSurface) (index : ℕ → Float) (pupil : Float) → ℕ → List ParaxialRay
trace_of surface index pupil count = tab (ray_at surface index pupil) count
