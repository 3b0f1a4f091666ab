-- What request 13 says holds of every lens, limits and slot. Assumes nothing.
use Rattle.std.specs.Prelude.{◌≡◌, refl, not, ℕ, zero, suc, ◌<◌, Float}
use Rattle.std.proofs.Common.{sym, ap, ◌∙◌, subst, arith, le_refl}
use Rattle.std.specs.Float.{binary64}
use Rattle.std.specs.Float.Ieee.{add}
use Rattle.std.specs.Float.Ieee.Fits.{and_r}
use Rattle.floatlaws.specs.Monotone.{Positive}
use Rattle.optics.specs.Check.{ten}
use Rattle.optics.specs.CheckLaws.{lens-parts, above-parts, above-finite, ten-finite}
use Rattle.optics.specs.Trace.{ray_at}
use Rattle.optics.specs.TraceLaws.{ray-same}
use Rattle.optics.specs.Types.{surface_at, slot_index, with_thickness}
use Rattle.optics.specs.declared.types.OpticalPrescription.{OpticalPrescription}
use Rattle.optics.specs.declared.types.OpticalSurface.{OpticalSurface}
use Rattle.optics.specs.declared.types.ParaxialRay.{ParaxialRay}
use Rattle.merit.specs.Calls.{unless_refused, lens_ray}
use Rattle.merit.proofs.CallLaws.{stays}
use Rattle.merit.specs.Operands.{track}
use Rattle.intervals.specs.Interval.{Between, ends_finite, crossed}
use Rattle.intervals.proofs.IntervalLaws.{Bounds, bounds, crossed-empty, uncrossed-holds}
use Rattle.intervals.specs.Calls.{thickness_at, height_at, slope_at, lens_limits, limits_number, limits_as}
use Rattle.intervals.proofs.CallLaws.{Limitable, limitable, limits-1, limits-3, limits-5}
use Rattle.intervals.proofs.Contained.{positive-above, height-between, slope-between, track-between, nominal-height, nominal-slope, nominal-track}
use Rattle.intervals.specs.Limits.{track_limits}
use Rattle.intervals.proofs.TakenLaws.{entry-is, refused-19, answered-0}
use Rattle.intervals.specs.Within.{thickness_of, Inside, track_of, entry, Request13}
use Rattle.intervals.specs.declared.types.Interval.{Interval}
use Rattle.intervals.specs.declared.types.ThicknessLimits.{ThicknessLimits}
use Rattle.intervals.specs.declared.types.TraceLimits.{TraceLimits}

-- the track looks only at surfaces below the count
track-same : (surface other : ℕ → OpticalSurface) (n : ℕ) → ((k : ℕ) → k < n → surface k ≡ other k) → track surface n ≡ track other n
unfolding track
track-same surface other zero h = refl
track-same surface other (suc n) h = λ i. add binary64 (track-same surface other n (λ k l. h k (further k n l)) i) (h n (last n) i).thickness_mm
  where
    further : (k n : ℕ) → k < n → k < suc n
    further k n l = omega arith

    last : (n : ℕ) → n < suc n
    last n = omega arith

moved : {a b : Interval} {x y : Float} → a ≡ b → x ≡ y → Between b y → Between a x
moved {a} {b} {x} {y} e f h = subst (λ (c : Interval). Between c x) (sym e) (subst (λ (z : Float). Between b z) (sym f) h)

module _ (p : OpticalPrescription) (l : ThicknessLimits) (slot : ℕ) (old : TraceLimits) where
  abbrev count : ℕ
  count = p.surface_count

  abbrev surface : ℕ → OpticalSurface
  surface = surface_at p.surfaces

  abbrev index : ℕ → Float
  index = slot_index p.indices slot

  abbrev pupil : Float
  pupil = p.entrance_pupil_diameter_mm

  module _ (e : limits_number p l slot ≡ 0) where
    written : limits_as old p l slot ≡ lens_limits p l slot
    written = ap (λ (n : ℕ). unless_refused n (lens_limits p l slot) old) e

    high : (k : ℕ) → k < count → entry (limits_as old p l slot).heights k ≡ height_at p l slot k
    high k h = ap (λ (t : TraceLimits). entry t.heights k) written ∙ entry-is (height_at p l slot) count k h

    steep : (k : ℕ) → k < count → entry (limits_as old p l slot).slopes k ≡ slope_at p l slot k
    steep k h = ap (λ (t : TraceLimits). entry t.slopes k) written ∙ entry-is (slope_at p l slot) count k h

    along : (limits_as old p l slot).track ≡ track_limits (thickness_at l) count
    along = ap (λ (t : TraceLimits). t.track) written

    ok : Limitable p l slot
    ok = limitable p l slot e

    indices : (k : ℕ) → k < count → Positive (index k)
    indices k h =
        let t = (lens-parts p ok.traced.lens).indices k slot h ok.traced.there in
        positive-above (index k) (above-finite ten (index k) ten-finite t) (above-parts ten (index k) t).above

    given : (k : ℕ) → k < count → Bounds (thickness_at l k)
    given k h = bounds (thickness_at l k) (and_r (not (crossed (thickness_at l k))) (ends_finite (thickness_at l k)) (ok.given k h))

    -- a lens with thicknesses inside the limits
    module _ (q : OpticalPrescription) (i : Inside p l q) where
      abbrev other : ℕ → OpticalSurface
      other k = with_thickness (surface k) (thickness_of q k)

      ray-is : (k : ℕ) → k < count → lens_ray q slot k ≡ ray_at other index pupil k
      ray-is k h =
          ap (λ (d : Float). ray_at (surface_at q.surfaces) (slot_index q.indices slot) d k) i.pupil
          ∙ ray-same (surface_at q.surfaces) other (slot_index q.indices slot) index pupil count i.surfaces
          (λ j m. i.indices j slot m ok.traced.there) k h

      track-is : track_of q ≡ track other count
      track-is = ap (track (surface_at q.surfaces)) i.count ∙ track-same (surface_at q.surfaces) other count i.surfaces

      height-in : (k : ℕ) → k < count → Between (entry (limits_as old p l slot).heights k) (lens_ray q slot k).y
      height-in k h =
          moved (high k h) (ap (λ (r : ParaxialRay). r.y) (ray-is k h))
          (height-between surface (thickness_at l) index pupil count (thickness_of q) indices given ok.worked i.between k h)

      slope-in : (k : ℕ) → k < count → Between (entry (limits_as old p l slot).slopes k) (lens_ray q slot k).u
      slope-in k h =
          moved (steep k h) (ap (λ (r : ParaxialRay). r.u) (ray-is k h))
          (slope-between surface (thickness_at l) index pupil count (thickness_of q) indices given ok.worked i.between k h)

      track-in : Between (limits_as old p l slot).track (track_of q)
      track-in =
          moved along track-is (track-between surface (thickness_at l) index pupil count (thickness_of q) indices given ok.worked i.between count
          (le_refl count))

  pub request13 : Request13 p l slot old
  request13 = record {
    height = λ e q i k h. height-in e q i k h;
    slope = λ e q i k h. slope-in e q i k h;
    track = λ e q i. track-in e q i;
    nominal_height = λ e n k h. high e k h ∙ nominal-height surface (thickness_at l) index pupil count n k h;
    nominal_slope = λ e n k h. steep e k h ∙ nominal-slope surface (thickness_at l) index pupil count n k h;
    nominal_track = λ e n. along e ∙ nominal-track surface (thickness_at l) index pupil count n count (le_refl count);
    crossed_empty = λ k. crossed-empty (thickness_at l k);
    uncrossed_holds = λ k. uncrossed-holds (thickness_at l k);
    kept = λ h. stays (limits_number p l slot) (lens_limits p l slot) old h;
    number_1 = limits-1 p l slot;
    number_3 = limits-3 p l slot;
    number_5 = limits-5 p l slot;
    number_19 = refused-19 p l slot;
    number_0 = answered-0 p l slot;
  }
