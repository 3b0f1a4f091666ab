-- A refraction and a transfer, one operation after the other. Assumes nothing.
use mathlib.Core.Path.{◌≡◌, ap, ◌∙◌}
use mathlib.Core.Bool.{Bool, ◌&&◌}
use lib.Ieee.{Float, binary64, sub, mul}
use Rattle.optics.specs.Curvature.{curvature}
use Rattle.intervals.specs.Interval.{exactly, times, plus, minus, over, ends_finite}
use Rattle.intervals.specs.Limits as L
use Rattle.intervals.specs.Limits.{refraction_finite, transfer_finite, passed_as}
use Rattle.intervals.specs.declared.types.ArrivingLimits.{ArrivingLimits}
use Rattle.intervals.specs.declared.types.Interval.{Interval}
use Rattle.intervals.specs.declared.types.PassedLimits.{PassedLimits}

module _ (t : Interval) (radius index : Float) (a : ArrivingLimits) (c : Float) (n p carried bent turned slope transfer height : Interval)
    (refracted transferred : Bool)
    (of_c : c ≡ curvature radius)
    (of-n : n ≡ exactly a.n)
    (of-p : p ≡ exactly (mul binary64 (sub binary64 index a.n) c))
    (of-carried : carried ≡ times n a.u)
    (of-bent : bent ≡ times a.y p)
    (of-turned : turned ≡ minus carried bent)
    (of-slope : slope ≡ over turned index)
    (of-transfer : transfer ≡ times t slope)
    (of-height : height ≡ plus a.y transfer)
    (of-refracted : refracted ≡ ((ends_finite carried && ends_finite bent) && (ends_finite turned && ends_finite slope)))
    (of-transferred : transferred ≡ (ends_finite transfer && ends_finite height)) where
  carries : carried ≡ times (exactly a.n) a.u
  carries = of-carried ∙ ap (λ (x : Interval). times x a.u) of-n

  bends : bent ≡ times a.y (exactly (mul binary64 (sub binary64 index a.n) (curvature radius)))
  bends = of-bent ∙ ap (times a.y) (of-p ∙ ap (λ (x : Float). exactly (mul binary64 (sub binary64 index a.n) x)) of_c)

  abbrev last : PassedLimits
  last = passed_as t radius index a

  turns : turned ≡ L.turned radius index a
  turns = of-turned ∙ λ i. minus (carries i) (bends i)

  slopes : slope ≡ last.ray.u
  slopes = of-slope ∙ ap (λ (x : Interval). over x index) turns

  transfers : transfer ≡ L.transfer t radius index a
  transfers = of-transfer ∙ ap (times t) slopes

  heights : height ≡ last.ray.y
  heights = of-height ∙ ap (plus a.y) transfers

  refracts : refracted ≡ refraction_finite radius index a
  unfolding refraction_finite
  refracts = of-refracted ∙ λ i. (ends_finite (carries i) && ends_finite (bends i)) && (ends_finite (turns i) && ends_finite (slopes i))

  carries_over : transferred ≡ transfer_finite t radius index a
  unfolding transfer_finite
  carries_over = of-transferred ∙ λ i. ends_finite (transfers i) && ends_finite (heights i)

  pub passed_is : ◌≡◌ {A = PassedLimits} (record { ray = record { y = height; u = slope; n = index }; refracted = refracted; transferred = transferred })
      (passed_as t radius index a)
  passed_is = λ i. record { ray = record { y = heights i; u = slopes i; n = index }; refracted = refracts i; transferred = carries_over i }
