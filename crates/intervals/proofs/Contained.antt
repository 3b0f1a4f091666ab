-- The trace and the track with thicknesses between the ends of limits, surface by surface. Assumes nothing.
use Rattle.std.specs.Prelude.{◌≡◌, Bool, true, false, ◌&&◌, T, Float}
use Rattle.std.proofs.Math.Path.{refl}
use Rattle.std.proofs.Common.{sym, ap, ◌∙◌, subst, ltb→lt}
use Prim.Native.Nat.{ℕ, zero, suc, ◌*◌, ◌<◌, ◌≤◌}
use native.Mathlib.Omega.{arith}
use Rattle.std.specs.Float.{nan, inf, fin, binary64}
use Rattle.std.specs.Float.Ieee.{mul, lt, of_bits, up, down}
use Rattle.std.specs.Float.Ieee.Fits.{and_l, and_r}
use Rattle.floats.specs.Constants.{zero64, one64}
use Rattle.floatlaws.specs.Fractions.{Finite}
use Rattle.floatlaws.specs.Monotone.{Positive}
use Rattle.optics.specs.Curvature.{curvature}
use Rattle.optics.specs.Trace.{power, slope_behind}
use Rattle.optics.specs.Trace as Trace
use Rattle.optics.specs.Types.{with_thickness}
use Rattle.optics.specs.declared.types.ArrivingRay.{ArrivingRay}
use Rattle.optics.specs.declared.types.OpticalSurface.{OpticalSurface}
use Rattle.merit.specs.Operands.{track}
use Rattle.intervals.specs.Interval.{Between, exactly, times, plus, minus, over, ends_finite}
use Rattle.intervals.proofs.IntervalLaws.{Bounds, bounds, exactly-holds, exactly-bounds, times-holds, plus-holds, minus-holds, over-holds, times-exactly}
use Rattle.intervals.proofs.IntervalLaws.{factor-finite}
use Rattle.intervals.specs.Limits as Limits
use Rattle.intervals.specs.Limits.{carried, bent, turned, transfer, height_behind, onward, start, track_limits, arriving, height_limits, slope_limits}
use Rattle.intervals.specs.Limits.{refraction_finite, transfer_finite, arrival_finite, surface_finite}
use Rattle.intervals.specs.declared.types.ArrivingLimits.{ArrivingLimits}
use Rattle.intervals.specs.declared.types.Interval.{Interval}

positive-finite : (x : Float) → Positive x → Finite x
positive-finite nan p = p
positive-finite (inf s) p = p
positive-finite (fin true m e) p = absurd p
positive-finite (fin false m e) p = tt

-- an index that check 3 takes
pub positive-above : (x : Float) → Finite x → T (lt zero64 x) → Positive x
unfolding of_bits lt
positive-above nan f h = absurd f
positive-above (inf s) f h = absurd f
positive-above (fin true m e) f h = absurd h
positive-above (fin false zero e) f h = absurd (no (up e) (down e) (ltb→lt _ _ h))
  where
    no : (u d : ℕ) → 0 * 1 * d < 0 * u * 1 → ⊥
    no u d l = omega arith
positive-above (fin false (suc m) e) f h = omega arith

zero-finite : Finite zero64
zero-finite = unfold of_bits in tt

one-positive : Positive one64
one-positive = unfold of_bits in omega arith

-- ---- a refraction and a transfer
-- the ray as it arrives, between the ends it arrives within
pub record Arrives (l : ArrivingLimits) (a : ArrivingRay) : Type 0 where
  pub height : Between l.y a.y
  pub slope : Between l.u a.u
  pub index : l.n ≡ a.n
  pub heights : Bounds l.y
  pub slopes : Bounds l.u

module _ (radius n' : Float) (l : ArrivingLimits) (a : ArrivingRay) (N : Positive a.n) (N' : Positive n') (h : Arrives l a)
    (f : T (refraction_finite radius n' l)) where
  abbrev first : Bool
  first = ends_finite (carried l) && ends_finite (bent radius n' l)

  abbrev second : Bool
  second = ends_finite (turned radius n' l) && ends_finite (Limits.slope_behind radius n' l)

  carries : Bounds (carried l)
  unfolding refraction_finite
  carries = bounds _ (and_l (ends_finite (carried l)) (ends_finite (bent radius n' l)) (and_l first second f))

  bends : Bounds (bent radius n' l)
  unfolding refraction_finite
  bends = bounds _ (and_r (ends_finite (carried l)) (ends_finite (bent radius n' l)) (and_l first second f))

  turns : Bounds (turned radius n' l)
  unfolding refraction_finite
  turns = bounds _ (and_l (ends_finite (turned radius n' l)) (ends_finite (Limits.slope_behind radius n' l)) (and_r first second f))

  leaves : Bounds (Limits.slope_behind radius n' l)
  unfolding refraction_finite
  leaves = bounds _ (and_r (ends_finite (turned radius n' l)) (ends_finite (Limits.slope_behind radius n' l)) (and_r first second f))

  abbrev bending : Float → Float
  bending n = power n n' (curvature radius)

  carried-holds : Between (carried l) (mul binary64 a.n a.u)
  carried-holds =
      subst (λ (n : Float). Between (times (exactly n) l.u) (mul binary64 a.n a.u)) (sym h.index)
      (times-holds (exactly a.n) l.u a.n a.u (exactly-bounds a.n (positive-finite a.n N)) h.slopes
      (exactly-holds a.n (positive-finite a.n N)) h.slope)

  bent-holds : Between (bent radius n' l) (mul binary64 a.y (bending a.n))
  bent-holds =
      let P = factor-finite l.y (bending l.n) bends in
      subst (λ (n : Float). Between (bent radius n' l) (mul binary64 a.y (bending n))) h.index
      (times-holds l.y (exactly (bending l.n)) a.y (bending l.n) h.heights (exactly-bounds _ P) h.height (exactly-holds _ P))

  slope-holds : Between (Limits.slope_behind radius n' l) (slope_behind radius n' a)
  slope-holds =
      over-holds (turned radius n' l) n' _ turns N'
      (minus-holds (carried l) (bent radius n' l) (mul binary64 a.n a.u) (mul binary64 a.y (bending a.n)) carries bends carried-holds bent-holds)

  -- over a thickness between the ends of its limits
  module _ (t : Interval) (τ : Float) (t-ends : Bounds t) (g : Between t τ) (w : T (transfer_finite t radius n' l)) where
    transfers : Bounds (transfer t radius n' l)
    unfolding transfer_finite
    transfers = bounds _ (and_l (ends_finite (transfer t radius n' l)) (ends_finite (height_behind t radius n' l)) w)

    arrives_at : Bounds (height_behind t radius n' l)
    unfolding transfer_finite
    arrives_at = bounds _ (and_r (ends_finite (transfer t radius n' l)) (ends_finite (height_behind t radius n' l)) w)

    transfer-arrives : Arrives (onward t radius n' l) (Trace.ray_behind (curvature radius) τ n' a)
    transfer-arrives = record {
      height = plus-holds l.y (transfer t radius n' l) a.y (mul binary64 τ (slope_behind radius n' a)) h.heights transfers h.height
          (times-holds t (Limits.slope_behind radius n' l) τ (slope_behind radius n' a) t-ends leaves g slope-holds);
      slope = slope-holds;
      index = refl;
      heights = arrives_at;
      slopes = leaves;
    }

-- ---- the surfaces in turn
module _ (surface : ℕ → OpticalSurface) (thickness : ℕ → Interval) (index : ℕ → Float) (pupil : Float) (count : ℕ) (τ : ℕ → Float)
    (indices : (k : ℕ) → k < count → Positive (index k))
    (given : (k : ℕ) → k < count → Bounds (thickness k))
    (worked : (k : ℕ) → k < count → T (surface_finite surface thickness index pupil k))
    (inside : (k : ℕ) → k < count → Between (thickness k) (τ k)) where
  -- the lens with these thicknesses
  abbrev other : ℕ → OpticalSurface
  other k = with_thickness (surface k) (τ k)

  abbrev ray : ℕ → ArrivingRay
  ray k = Trace.arriving other index pupil k

  abbrev lim : ℕ → ArrivingLimits
  lim k = arriving surface thickness index pupil k

  abbrev refraction : ℕ → Bool
  refraction k = refraction_finite (surface k).radius_mm (index k) (lim k)

  abbrev summed : ℕ → Bool
  summed k = ends_finite (track_limits thickness (suc k))

  arrived : (k : ℕ) → k < count → T (arrival_finite surface thickness index pupil k)
  arrived k h =
      and_l (arrival_finite surface thickness index pupil k) (refraction k)
      (and_l (arrival_finite surface thickness index pupil k && refraction k) (summed k) (worked k h))

  refracted : (k : ℕ) → k < count → T (refraction k)
  refracted k h =
      and_r (arrival_finite surface thickness index pupil k) (refraction k)
      (and_l (arrival_finite surface thickness index pupil k && refraction k) (summed k) (worked k h))

  in-front : (k : ℕ) → k < count → Positive (ray k).n
  unfolding Trace.arriving
  in-front zero h = one-positive
  in-front (suc k) h = indices k (omega arith)

  arrives : (k : ℕ) → k < count → Arrives (lim k) (ray k)
  unfolding Trace.arriving arriving arrival_finite
  arrives zero h =
      let starts = (bounds (start pupil).y (arrived 0 h)).low in
      record {
        height = exactly-holds _ starts;
        slope = exactly-holds _ zero-finite;
        index = refl;
        heights = exactly-bounds _ starts;
        slopes = exactly-bounds _ zero-finite;
      }
  arrives (suc k) h =
      let m : k < count = omega arith in
      transfer-arrives (surface k).radius_mm (index k) (lim k) (ray k) (in-front k m) (indices k m) (arrives k m) (refracted k m) (thickness k) (τ k)
      (given k m) (inside k m) (arrived (suc k) h)

  pub height-between : (k : ℕ) → k < count → Between (height_limits surface thickness index pupil k) (Trace.ray_at other index pupil k).y
  height-between k h = (arrives k h).height

  pub slope-between : (k : ℕ) → k < count → Between (slope_limits surface thickness index pupil k) (Trace.ray_at other index pupil k).u
  slope-between k h = slope-holds (surface k).radius_mm (index k) (lim k) (ray k) (in-front k h) (indices k h) (arrives k h) (refracted k h)

  sum-bounds : (k : ℕ) → k ≤ count → Bounds (track_limits thickness k)
  unfolding track_limits
  sum-bounds zero h = exactly-bounds _ zero-finite
  sum-bounds (suc k) h = bounds _ (and_r (arrival_finite surface thickness index pupil k && refraction k) (summed k) (worked k h))

  pub track-between : (k : ℕ) → k ≤ count → Between (track_limits thickness k) (track other k)
  unfolding track_limits track
  track-between zero h = exactly-holds _ zero-finite
  track-between (suc k) h =
      plus-holds (track_limits thickness k) (thickness k) (track other k) (τ k) (sum-bounds k (omega arith)) (given k h) (track-between k (omega arith))
      (inside k h)

-- ---- known thicknesses
abbrev exact_ray : ArrivingRay → ArrivingLimits
exact_ray a = record { y = exactly a.y; u = exactly a.u; n = a.n }

slope-exactly : (radius n' : Float) (a : ArrivingRay) → Limits.slope_behind radius n' (exact_ray a) ≡ exactly (slope_behind radius n' a)
slope-exactly radius n' a = λ i. over (minus (times-exactly a.n a.u i) (times-exactly a.y (power a.n n' (curvature radius)) i)) n'

module _ (surface : ℕ → OpticalSurface) (thickness : ℕ → Interval) (index : ℕ → Float) (pupil : Float) (count : ℕ)
    (nominal : (k : ℕ) → k < count → thickness k ≡ exactly (surface k).thickness_mm) where
  nominal-arrives : (k : ℕ) → k ≤ count → arriving surface thickness index pupil k ≡ exact_ray (Trace.arriving surface index pupil k)
  unfolding arriving Trace.arriving
  nominal-arrives zero h = refl
  nominal-arrives (suc k) h =
      let a = Trace.arriving surface index pupil k in
      let r = (surface k).radius_mm in
      let t = (surface k).thickness_mm in
      (λ i. onward (nominal k h i) r (index k) (nominal-arrives k (omega arith) i))
      ∙ (λ i. record {
        y = plus (exactly a.y) ((ap (times (exactly t)) (slope-exactly r (index k) a) ∙ times-exactly t (slope_behind r (index k) a)) i);
        u = slope-exactly r (index k) a i;
        n = index k;
      })

  pub nominal-height : (k : ℕ) → k < count → height_limits surface thickness index pupil k ≡ exactly (Trace.ray_at surface index pupil k).y
  nominal-height k h = ap (λ (l : ArrivingLimits). l.y) (nominal-arrives k (omega arith))

  pub nominal-slope : (k : ℕ) → k < count → slope_limits surface thickness index pupil k ≡ exactly (Trace.ray_at surface index pupil k).u
  nominal-slope k h =
      ap (Limits.slope_behind (surface k).radius_mm (index k)) (nominal-arrives k (omega arith))
      ∙ slope-exactly (surface k).radius_mm (index k) (Trace.arriving surface index pupil k)

  pub nominal-track : (k : ℕ) → k ≤ count → track_limits thickness k ≡ exactly (track surface k)
  unfolding track_limits track
  nominal-track zero h = refl
  nominal-track (suc k) h = λ i. plus (nominal-track k (omega arith) i) (nominal k h i)
