-- Request 13, "Thickness known only within limits": what it says of the call. The proof is in WithinLaws.antt. Definitions only.
use Rattle.std.specs.Prelude.{◌≡◌, Bool, true, not, List, ◌↔◌, ℕ, ◌<◌, ◌≤◌, T, ltb, Float, get_or}
use Rattle.lists.specs.Refusals.{NoneOf, before}
use Rattle.optics.specs.Check.{lens_taken}
use Rattle.optics.specs.Kept.{lens_counts_taken}
use Rattle.optics.specs.Types.{surface_at, slot_index, with_thickness}
use Rattle.optics.specs.declared.types.OpticalPrescription.{OpticalPrescription}
use Rattle.merit.specs.Calls.{lens_ray, trace_refusals}
use Rattle.merit.specs.Operands.{track}
use Rattle.intervals.specs.Interval.{Between, exactly, crossed, ends_finite, no_interval}
use Rattle.intervals.specs.Calls.{thickness_at, lens_limits, limits_refusals, limits_number, limits_as}
use Rattle.intervals.specs.declared.types.Interval.{Interval}
use Rattle.intervals.specs.declared.types.ThicknessLimits.{ThicknessLimits}
use Rattle.intervals.specs.declared.types.TraceLimits.{TraceLimits}

abbrev pub thickness_of : OpticalPrescription → ℕ → Float
thickness_of q k = (surface_at q.surfaces k).thickness_mm

-- q is the lens p "with thicknesses inside the limits": all else that a trace looks at is p's. Its thicknesses may be such as `trace` would refuse.
pub record Inside (p : OpticalPrescription) (l : ThicknessLimits) (q : OpticalPrescription) : Type 0 where
  pub count : q.surface_count ≡ p.surface_count
  pub pupil : q.entrance_pupil_diameter_mm ≡ p.entrance_pupil_diameter_mm
  pub indices : (k w : ℕ) → k < p.surface_count → w < p.slot_count → slot_index q.indices w k ≡ slot_index p.indices w k
  pub surfaces : (k : ℕ) → k < p.surface_count → surface_at q.surfaces k ≡ with_thickness (surface_at p.surfaces k) (thickness_of q k)
  pub between : (k : ℕ) → k < p.surface_count → Between (thickness_at l k) (thickness_of q k)

-- "Limits equal to the nominal"
abbrev pub Nominal : OpticalPrescription → ThicknessLimits → Type 0
Nominal p l = (k : ℕ) → k < p.surface_count → thickness_at l k ≡ exactly (thickness_of p k)

-- the lens's track, which a merit's operand has too
abbrev pub track_of : OpticalPrescription → Float
track_of q = track (surface_at q.surfaces) q.surface_count

-- entry k of what the call writes
abbrev pub entry : List Interval → ℕ → Interval
entry xs k = get_or xs k no_interval

-- no "Fewer than two surfaces, crossed limits, or an interval end, given or worked out, that is not finite"
pub record Taken (p : OpticalPrescription) (l : ThicknessLimits) (slot : ℕ) : Type 0 where
  pub two : 2 ≤ p.surface_count
  pub uncrossed : (k : ℕ) → k < p.surface_count → T (not (crossed (thickness_at l k)))
  pub given : (k : ℕ) → k < p.surface_count → T (ends_finite (thickness_at l k))
  pub heights : (k : ℕ) → k < p.surface_count → T (ends_finite (entry (lens_limits p l slot).heights k))
  pub slopes : (k : ℕ) → k < p.surface_count → T (ends_finite (entry (lens_limits p l slot).slopes k))
  pub track : T (ends_finite (lens_limits p l slot).track)

-- of a lens, limits, a slot, and what was lent before the call
module _ (p : OpticalPrescription) (l : ThicknessLimits) (slot : ℕ) (old : TraceLimits) where
  abbrev pub number : ℕ
  number = limits_number p l slot

  -- what was lent, at exit
  abbrev pub written : TraceLimits
  written = limits_as old p l slot

  -- the call answers n exactly when the cause holds and none in front of it does
  abbrev pub Answers : (n : ℕ) (cause : Bool) → Type 0
  Answers n cause = (number ≡ n) ↔ ((cause ≡ true) × NoneOf (before n (limits_refusals p l slot)))

  pub record Request13 : Type 0 where
    -- "every trace with thicknesses inside the limits lands between them as the trace itself rounds"
    pub height : number ≡ 0 → (q : OpticalPrescription) → Inside p l q → (k : ℕ) → k < p.surface_count →
        Between (entry written.heights k) (lens_ray q slot k).y
    pub slope : number ≡ 0 → (q : OpticalPrescription) → Inside p l q → (k : ℕ) → k < p.surface_count →
        Between (entry written.slopes k) (lens_ray q slot k).u
    pub track : number ≡ 0 → (q : OpticalPrescription) → Inside p l q → Between written.track (track_of q)
    -- "Limits equal to the nominal give the nominal trace on both ends"
    pub nominal_height : number ≡ 0 → Nominal p l → (k : ℕ) → k < p.surface_count → entry written.heights k ≡ exactly (lens_ray p slot k).y
    pub nominal_slope : number ≡ 0 → Nominal p l → (k : ℕ) → k < p.surface_count → entry written.slopes k ≡ exactly (lens_ray p slot k).u
    pub nominal_track : number ≡ 0 → Nominal p l → written.track ≡ exactly (track_of p)
    -- "crossed limits" are those that no thickness lies inside; limits that meet, also as -0.0 and +0.0, are not crossed
    pub crossed_empty : (k : ℕ) → T (crossed (thickness_at l k)) → (x : Float) → Between (thickness_at l k) x → ⊥
    pub uncrossed_holds : (k : ℕ) → T (ends_finite (thickness_at l k)) → T (not (crossed (thickness_at l k)))
        → Between (thickness_at l k) (thickness_at l k).low
    -- refused: nothing is written
    pub kept : 0 < number → written ≡ old
    -- "give 19, after all that a trace by itself checks"
    pub number_1 : Answers 1 (not (lens_counts_taken p.surface_count p.slot_count))
    pub number_3 : Answers 3 (not (lens_taken p))
    pub number_5 : Answers 5 (not (ltb slot p.slot_count))
    pub number_19 : (number ≡ 19) ↔ ((Taken p l slot → ⊥) × NoneOf (trace_refusals p slot p.surface_count))
    pub number_0 : (number ≡ 0) ↔ (Taken p l slot × NoneOf (trace_refusals p slot p.surface_count))
