-- The paraxial trace of one wavelength slot with thicknesses within limits: `Trace` of optics, formula by formula, on intervals. Indices, curvatures, powers
-- and the pupil are known numbers, the trace's own. Definitions only.
use Rattle.std.specs.Prelude.{Bool, ◌&&◌, ℕ, zero, suc, Float}
use Rattle.std.specs.Float.{binary64}
use Rattle.std.specs.Float.Ieee.{mul}
use Rattle.floats.specs.Constants.{zero64, half64, one64}
use Rattle.optics.specs.Curvature.{curvature}
use Rattle.optics.specs.Trace.{power}
use Rattle.optics.specs.declared.types.OpticalSurface.{OpticalSurface}
use Rattle.intervals.specs.Interval.{exactly, times, plus, minus, over, ends_finite}
use Rattle.intervals.specs.declared.types.ArrivingLimits.{ArrivingLimits}
use Rattle.intervals.specs.declared.types.Interval.{Interval}
use Rattle.intervals.specs.declared.types.PassedLimits.{PassedLimits}

-- ---- "slope' = (n × slope - height × power) / n'"
abbrev pub carried : ArrivingLimits → Interval
carried a = times (exactly a.n) a.u

abbrev pub bent : (radius n' : Float) → ArrivingLimits → Interval
bent radius n' a = times a.y (exactly (power a.n n' (curvature radius)))

abbrev pub turned : (radius n' : Float) → ArrivingLimits → Interval
turned radius n' a = minus (carried a) (bent radius n' a)

abbrev pub slope_behind : (radius n' : Float) → ArrivingLimits → Interval
slope_behind radius n' a = over (turned radius n' a) n'

-- ---- "height' = height + thickness × slope'"
abbrev pub transfer : (thickness : Interval) (radius n' : Float) → ArrivingLimits → Interval
transfer t radius n' a = times t (slope_behind radius n' a)

abbrev pub height_behind : (thickness : Interval) (radius n' : Float) → ArrivingLimits → Interval
height_behind t radius n' a = plus a.y (transfer t radius n' a)

-- from one surface to the next
abbrev pub onward : (thickness : Interval) (radius n' : Float) → ArrivingLimits → ArrivingLimits
onward t radius n' a = record { y = height_behind t radius n' a; u = slope_behind radius n' a; n = n' }

-- every interval that a refraction works out is finite, and every one that a transfer does
unfoldable pub refraction_finite : (radius n' : Float) → ArrivingLimits → Bool
refraction_finite radius n' a =
    (ends_finite (carried a) && ends_finite (bent radius n' a)) && (ends_finite (turned radius n' a) && ends_finite (slope_behind radius n' a))

unfoldable pub transfer_finite : (thickness : Interval) (radius n' : Float) → ArrivingLimits → Bool
transfer_finite t radius n' a = ends_finite (transfer t radius n' a) && ends_finite (height_behind t radius n' a)

abbrev pub passed_as : (thickness : Interval) (radius n' : Float) → ArrivingLimits → PassedLimits
passed_as t radius n' a = record { ray = onward t radius n' a; refracted = refraction_finite radius n' a; transferred = transfer_finite t radius n' a }

-- "The trace starts at height half the pupil diameter, slope 0, index 1"
abbrev pub start : Float → ArrivingLimits
start pupil = record { y = exactly (mul binary64 pupil half64); u = exactly zero64; n = one64 }

-- ---- the surfaces in turn: `thickness` gives the limits behind each
-- the thicknesses added in rising order, from +0.0: least and greatest apart
unfoldable pub track_limits : (thickness : ℕ → Interval) → ℕ → Interval
track_limits thickness zero = exactly zero64
track_limits thickness (suc n) = plus (track_limits thickness n) (thickness n)

module _ (surface : ℕ → OpticalSurface) (thickness : ℕ → Interval) (index : ℕ → Float) (pupil : Float) where
  unfoldable pub arriving : ℕ → ArrivingLimits
  arriving zero = start pupil
  arriving (suc k) = onward (thickness k) (surface k).radius_mm (index k) (arriving k)

  -- "for each surface least and greatest height and slope"
  abbrev pub height_limits : ℕ → Interval
  height_limits k = (arriving k).y

  abbrev pub slope_limits : ℕ → Interval
  slope_limits k = slope_behind (surface k).radius_mm (index k) (arriving k)

  -- every interval worked out on the way to surface k, and at it. There is no transfer behind the last surface.
  unfoldable pub arrival_finite : ℕ → Bool
  arrival_finite zero = ends_finite (start pupil).y
  arrival_finite (suc k) = transfer_finite (thickness k) (surface k).radius_mm (index k) (arriving k)

  abbrev pub surface_finite : ℕ → Bool
  surface_finite k = (arrival_finite k && refraction_finite (surface k).radius_mm (index k) (arriving k)) && ends_finite (track_limits thickness (suc k))
