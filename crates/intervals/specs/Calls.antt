-- The call: what refuses it and what it answers. Definitions only.
use Rattle.std.specs.Prelude.{ℕ, ◌-◌, Bool, cond, not, ◌&&◌, List, [], ◌∷◌, ◌++◌, leb, get_or, replicate, Option, Some, None, Result}
use Rattle.lists.specs.All.{all_below}
use Rattle.lists.specs.Refusals.{Refusal, refusal, first_refusal}
use Rattle.lists.specs.Tab.{tab}
use Rattle.refusals.specs.Numbers.{value_unless}
use Rattle.optics.specs.Types.{surface_at, slot_index}
use Rattle.optics.specs.declared.types.OpticalPrescription.{OpticalPrescription}
use Rattle.merit.specs.Calls.{unless_refused, trace_refusals}
use Rattle.intervals.specs.Interval.{ends_finite, crossed, no_interval, zero_interval}
use Rattle.intervals.specs.Limits.{track_limits, height_limits, slope_limits, surface_finite}
use Rattle.intervals.specs.declared.types.Interval.{Interval}
use Rattle.intervals.specs.declared.types.ThicknessLimits.{ThicknessLimits}
use Rattle.intervals.specs.declared.types.TraceLimits.{TraceLimits}

-- "states each thickness as a least and a greatest value": those behind surface k
abbrev pub thickness_at : ThicknessLimits → ℕ → Interval
thickness_at l k = get_or l.thicknesses k no_interval

-- no "crossed limits", and no "interval end, given .., that is not finite"
abbrev pub given_taken : Interval → Bool
given_taken t = not (crossed t) && ends_finite t

abbrev pub all_given : ThicknessLimits → (count : ℕ) → Bool
all_given l count = all_below (λ (k : ℕ). given_taken (thickness_at l k)) count

-- one for each surface, zero past them
abbrev pub sixteen : (ℕ → Interval) → ℕ → List Interval
sixteen f n = tab f n ++ replicate (16 - n) zero_interval

module _ (p : OpticalPrescription) (l : ThicknessLimits) (slot : ℕ) where
  -- the limits of the lens as it is handed in; the index is the one that its trace uses, and its own thicknesses have no part
  abbrev pub height_at : ℕ → Interval
  height_at = height_limits (surface_at p.surfaces) (thickness_at l) (slot_index p.indices slot) p.entrance_pupil_diameter_mm

  abbrev pub slope_at : ℕ → Interval
  slope_at = slope_limits (surface_at p.surfaces) (thickness_at l) (slot_index p.indices slot) p.entrance_pupil_diameter_mm

  abbrev pub finite_at : ℕ → Bool
  finite_at = surface_finite (surface_at p.surfaces) (thickness_at l) (slot_index p.indices slot) p.entrance_pupil_diameter_mm

  -- "Give least and greatest track, and for each surface least and greatest height and slope"
  abbrev pub lens_limits : TraceLimits
  lens_limits = record {
    track = track_limits (thickness_at l) p.surface_count;
    heights = sixteen height_at p.surface_count;
    slopes = sixteen slope_at p.surface_count;
  }

  -- where every interval worked out is finite
  abbrev pub worked_as : Option TraceLimits
  worked_as = cond (all_below finite_at p.surface_count) (Some lens_limits) None

  -- what "Fewer than two surfaces, crossed limits, or an interval end, given or worked out, that is not finite" does not refuse
  unfoldable pub limits_taken : Bool
  limits_taken = leb 2 p.surface_count && all_given l p.surface_count && all_below finite_at p.surface_count

  -- "give 19, after all that a trace by itself checks"
  abbrev pub limits_refusals : List Refusal
  limits_refusals = trace_refusals p slot p.surface_count ++ (refusal 19 (not limits_taken) ∷ [])

  unfoldable pub limits_number : ℕ
  limits_number = first_refusal limits_refusals

-- what is lent, at exit
abbrev pub limits_as : (old : TraceLimits) → OpticalPrescription → ThicknessLimits → (slot : ℕ) → TraceLimits
limits_as old p l slot = unless_refused (limits_number p l slot) (lens_limits p l slot) old

-- by value
unfoldable pub limits_traced : OpticalPrescription → ThicknessLimits → (slot : ℕ) → Result TraceLimits ℕ
limits_traced p l slot = value_unless (limits_number p l slot) (lens_limits p l slot)
