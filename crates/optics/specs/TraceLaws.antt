-- What callers may use of the trace and of the properties: they look only at surfaces and indices below the count. Assumes nothing.
use Rattle.std.specs.Prelude.{◌≡◌, List, ◌++◌, Bool, ◌&&◌, ltb, Float, get_or, Some, None}
use Rattle.std.proofs.Math.Path.{refl, ap}
use Rattle.std.proofs.Common.{◌∙◌, add-one, arith, ltb-false}
use Prim.Native.Nat.{ℕ, zero, suc, ◌+◌, ◌-◌, ◌≤◌, ◌<◌}
use Rattle.std.proofs.Math.Bool.{true, false, cond}
use Rattle.std.specs.Float.{nan, binary64}
use Rattle.std.specs.Float.Ieee.{sub, eq}
use Rattle.std.proofs.Math.ListN.{get_or-append}
use Rattle.floats.specs.Constants.{zero64}
use Rattle.lists.specs.Tab.{tab, length-tab, get_or-tab, tab-same}
use Rattle.optics.specs.Curvature.{curvature}
use Rattle.optics.specs.Trace.{start, arriving, onward, slope_behind, ray_at, ray_of, rays_of, trace_of}
use Rattle.optics.specs.Properties.{negligible, ends_in_detector, properties_from, properties_of, paraxial_of}
use Rattle.optics.specs.declared.types.ArrivingRay.{ArrivingRay}
use Rattle.optics.specs.declared.types.OpticalSurface.{OpticalSurface}

-- ---- a turn of a loop over the surfaces
module _ (surface : ℕ → OpticalSurface) (index : ℕ → Float) (pupil : Float) where
  pub arriving-more : (k : ℕ) (a r : ArrivingRay) → a ≡ arriving surface index pupil k → r ≡ onward (surface k) (index k) a
      → r ≡ arriving surface index pupil (k + 1)
  unfolding arriving
  arriving-more k a r e f = f ∙ rw (add-one, e)

  -- the record of surface k, out of the rays as they arrive at it and at the next
  pub ray-turned : (k : ℕ) (a r : ArrivingRay) → a ≡ arriving surface index pupil k → r ≡ onward (surface k) (index k) a
      → ray_of a.y r.u ≡ ray_at surface index pupil k
  ray-turned k a r e f = λ i. ray_of (e i).y ((f ∙ ap (onward (surface k) (index k)) e) i).u

-- ---- heights and slopes make the trace
pub rays-are : (surface : ℕ → OpticalSurface) (index : ℕ → Float) (pupil : Float) (count : ℕ) (hs us : List Float)
    → rays_of (tab (λ (k : ℕ). (ray_at surface index pupil k).y) count ++ hs) (tab (λ (k : ℕ). (ray_at surface index pupil k).u) count ++ us) count
    ≡ trace_of surface index pupil count
rays-are surface index pupil count hs us =
    tab-same _ _ count (λ k h. λ i. ray_of (at (λ (k : ℕ). (ray_at surface index pupil k).y) hs k h i)
    (at (λ (k : ℕ). (ray_at surface index pupil k).u) us k h i))
  where
    at : (f : ℕ → Float) (l : List Float) (k : ℕ) → k < count → get_or (tab f count ++ l) k nan ≡ f k
    at f l k h = get_or-append (tab f count) l nan k (rw (length-tab f count) h) ∙ get_or-tab f count k nan h

-- ---- two lenses that agree below a count
module _ (surface surface' : ℕ → OpticalSurface) (index index' : ℕ → Float) (pupil : Float) (count : ℕ) (same : (i : ℕ) → i < count → surface i ≡ surface' i)
    (alike : (i : ℕ) → i < count → index i ≡ index' i) where
  arriving-same : (k : ℕ) → k ≤ count → arriving surface index pupil k ≡ arriving surface' index' pupil k
  unfolding arriving
  arriving-same zero h = refl
  arriving-same (suc k) h = λ i. onward (same k h i) (alike k h i) (arriving-same k (omega arith) i)

  pub ray-same : (k : ℕ) → k < count → ray_at surface index pupil k ≡ ray_at surface' index' pupil k
  ray-same k h = λ i. ray_of (arriving-same k (omega arith) i).y (slope_behind (same k h i).radius_mm (alike k h i) (arriving-same k (omega arith) i))

  pub trace-same : trace_of surface index pupil count ≡ trace_of surface' index' pupil count
  trace-same = tab-same (ray_at surface index pupil) (ray_at surface' index' pupil) count ray-same

  properties-same : 2 ≤ count → properties_of surface index pupil count ≡ properties_of surface' index' pupil count
  properties-same h =
      let p : count - 2 < count = omega arith in
      let q : count - 1 < count = omega arith in
      let detector : ends_in_detector surface index count ≡ ends_in_detector surface' index' count =
      λ i. negligible (sub binary64 (alike (count - 2) p i) (alike (count - 1) q i)) && negligible (curvature (same (count - 1) q i).radius_mm)
      && eq (same (count - 1) q i).thickness_mm zero64
      in
      λ i. properties_from (start pupil).y pupil (ray-same (count - 1) q i) (cond (detector i) (ray-same (count - 2) p i) (ray-same (count - 1) q i))

  pub paraxial-same : paraxial_of surface index pupil count ≡ paraxial_of surface' index' pupil count
  unfolding paraxial_of
  paraxial-same = go (ltb count 2) (λ e. properties-same (ltb-false count 2 e))
    where
      go : (b : Bool) → (b ≡ false → properties_of surface index pupil count ≡ properties_of surface' index' pupil count)
          → cond b None (Some (properties_of surface index pupil count)) ≡ cond b None (Some (properties_of surface' index' pupil count))
      go true h = refl
      go false h = ap Some (h refl)
