-- A loop over the surfaces with intervals. Assumes nothing.
use mathlib.Core.Path.{◌≡◌, refl, sym, ap, ◌∙◌}
use mathlib.Core.Bool.{Bool, true, false, cond, ◌&&◌}
use Rattle.std.specs.Prelude.{Some, None}
use mathlib.Core.List.{List, ◌++◌}
use Prim.Native.Nat.{ℕ, ◌+◌, ◌<◌}
use native.Mathlib.Numerals.{add-one}
use lib.Ieee.{Float}
use lib.ListN.{length, set, drop, replicate}
use Rattle.floats.specs.Constants.{zero64}
use Rattle.lists.specs.All.{all_below, not-all}
use Rattle.lists.specs.Tab.{tab, tab-step, drop-replicate}
use Rattle.optics.specs.Types.{surface_at, slot_index}
use Rattle.optics.specs.declared.types.OpticalPrescription.{OpticalPrescription}
use Rattle.optics.specs.declared.types.OpticalSurface.{OpticalSurface}
use Rattle.intervals.specs.Interval.{exactly, plus, ends_finite, no_interval, zero_interval}
use Rattle.intervals.specs.Limits.{start, passed_as, track_limits, arriving, height_limits, slope_limits, arrival_finite, surface_finite}
use Rattle.intervals.specs.Calls.{thickness_at, sixteen, height_at, slope_at, finite_at, lens_limits, worked_as}
use Rattle.intervals.specs.declared.types.ArrivingLimits.{ArrivingLimits}
use Rattle.intervals.specs.declared.types.Interval.{Interval}
use Rattle.intervals.specs.declared.types.PassedLimits.{PassedLimits}
use Rattle.intervals.specs.declared.types.ThicknessLimits.{ThicknessLimits}

module _ (surface : ℕ → OpticalSurface) (thickness : ℕ → Interval) (index : ℕ → Float) (pupil : Float) (heights₀ slopes₀ : List Interval) where
  -- the loop has come to surface k
  pub record Working (heights slopes : List Interval) (track : Interval) (ray : ArrivingLimits) (arrived finite : Bool) (k : ℕ) : Type 0 where
    pub high : heights ≡ tab (height_limits surface thickness index pupil) k ++ drop k heights₀
    pub steep : slopes ≡ tab (slope_limits surface thickness index pupil) k ++ drop k slopes₀
    pub along : track ≡ track_limits thickness k
    pub here : ray ≡ arriving surface thickness index pupil k
    pub came : arrived ≡ arrival_finite surface thickness index pupil k
    pub ended : finite ≡ all_below (surface_finite surface thickness index pupil) k

  pub first : (track : Interval) (ray : ArrivingLimits) (arrived : Bool) → track ≡ exactly zero64 → ray ≡ start pupil → arrived ≡ ends_finite ray.y →
      Working heights₀ slopes₀ track ray arrived true 0
  unfolding tab track_limits arriving arrival_finite all_below
  first track ray arrived t r a =
      record { high = refl; steep = refl; along = t; here = r; came = a ∙ ap (λ (l : ArrivingLimits). ends_finite l.y) r; ended = refl }

  module _ {heights slopes : List Interval} {track : Interval} {ray : ArrivingLimits} {arrived finite : Bool} {k : ℕ}
      (w : Working heights slopes track ray arrived finite k) (room : k < length heights₀) (space : k < length slopes₀)
      (next : PassedLimits) (sum : Interval) (more : Bool)
      (n : next ≡ passed_as (thickness k) (surface k).radius_mm (index k) ray) (s : sum ≡ plus track (thickness k))
      (m : more ≡ (finite && ((arrived && next.refracted) && ends_finite sum))) where
    passes : next ≡ passed_as (thickness k) (surface k).radius_mm (index k) (arriving surface thickness index pupil k)
    passes = n ∙ ap (passed_as (thickness k) (surface k).radius_mm (index k)) w.here

    adds : sum ≡ plus (track_limits thickness k) (thickness k)
    adds = s ∙ ap (λ (t : Interval). plus t (thickness k)) w.along

    pub unfinished : (surface_finite surface thickness index pupil k) ≡ ((arrived && next.refracted) && ends_finite sum)
    unfolding track_limits
    unfinished = sym (λ i. (w.came i && (passes i).refracted) && ends_finite (adds i))

    pub another : Working (set heights k ray.y) (set slopes k next.ray.u) sum next.ray next.transferred more (k + 1)
    unfolding track_limits arriving arrival_finite all_below
    another = record {
      high = tab-step (height_limits surface thickness index pupil) heights₀ heights k _ no_interval w.high (ap (λ (l : ArrivingLimits). l.y) w.here) room;
      steep = tab-step (slope_limits surface thickness index pupil) slopes₀ slopes k _ no_interval w.steep (ap (λ (l : PassedLimits). l.ray.u) passes) space;
      along = rw add-one adds;
      here = rw add-one (ap (λ (l : PassedLimits). l.ray) passes);
      came = rw add-one (ap (λ (l : PassedLimits). l.transferred) passes);
      ended = rw add-one (m ∙ (λ i. w.ended i && ((w.came i && (passes i).refracted) && ends_finite (adds i))));
    }

-- an interval at some surface is not finite
pub given_up : (p : OpticalPrescription) (l : ThicknessLimits) (slot k : ℕ) → k < p.surface_count → finite_at p l slot k ≡ false → None ≡ worked_as p l slot
given_up p l slot k h e =
    sym (ap (λ (b : Bool). cond b (Some (lens_limits p l slot)) None) (not-all (finite_at p l slot) p.surface_count k h e))

-- zero past the surfaces
pub finished : (p : OpticalPrescription) (l : ThicknessLimits) (slot : ℕ) (heights₀ slopes₀ heights slopes : List Interval) (track : Interval)
    (ray : ArrivingLimits) (arrived : Bool) →
    heights₀ ≡ replicate 16 zero_interval → slopes₀ ≡ replicate 16 zero_interval →
    Working (surface_at p.surfaces) (thickness_at l) (slot_index p.indices slot) p.entrance_pupil_diameter_mm heights₀ slopes₀ heights slopes track ray
    arrived true p.surface_count →
    Some (record { track = track; heights = heights; slopes = slopes }) ≡ worked_as p l slot
finished p l slot heights₀ slopes₀ heights slopes track ray arrived h s w = λ i. cond (w.ended i)
    (Some (record { track = w.along i; heights = (w.high ∙ past (height_at p l slot) h) i; slopes = (w.steep ∙ past (slope_at p l slot) s) i })) None
  where
    past : (f : ℕ → Interval) {l₀ : List Interval} → l₀ ≡ replicate 16 zero_interval → tab f p.surface_count ++ drop p.surface_count l₀
        ≡ sixteen f p.surface_count
    past f e =
        ap (λ (m : List Interval). tab f p.surface_count ++ m) (ap (drop p.surface_count) e ∙ drop-replicate zero_interval p.surface_count 16)
