-- The trace of all slots: their rays from one surface to the next, and the properties of each. Assumes nothing.
use mathlib.Core.Path.{◌≡◌, refl, sym, ap, ◌∙◌}
use mathlib.Core.List.{List}
use Prim.Native.Nat.{ℕ, ◌+◌, ◌-◌, ◌≤◌, ◌<◌}
use native.Mathlib.Omega.{arith}
use borrow.Author.Tests.{le-ltb}
use lib.Ieee.{Float}
use lib.ListN.{get_or}
use Rattle.lists.specs.Tab.{tab, get_or-tab, tab-same}
use Rattle.optics.specs.Types.{no_arriving, no_last}
use Rattle.optics.specs.Trace.{start, arriving, onward, ray_at}
use Rattle.optics.specs.TraceLaws.{arriving-more, ray-turned}
use Rattle.optics.specs.Properties.{last_rays, rays_between, properties_behind, paraxial_of}
use Rattle.optics.specs.declared.types.ArrivingRay.{ArrivingRay}
use Rattle.optics.specs.declared.types.LastRays.{LastRays}
use Rattle.optics.specs.declared.types.OpticalSurface.{OpticalSurface}
use Rattle.std.specs.Prelude.{Some}
use Rattle.optics.specs.declared.types.ParaxialProperties.{ParaxialProperties}

module _ (surface : ℕ → OpticalSurface) (index : ℕ → ℕ → Float) (pupil : Float) where
  -- the rays as they arrive at surface k, and the rays behind it
  abbrev pub Arriving : ℕ → List ArrivingRay → Type 0
  Arriving k rays = rays ≡ tab (λ (w : ℕ). arriving surface (index w) pupil k) 4

  abbrev pub Onward : ℕ → (rays next : List ArrivingRay) → Type 0
  Onward k rays next = next ≡ tab (λ (w : ℕ). onward (surface k) (index w k) (get_or rays w no_arriving)) 4

  pub starting : (r : ArrivingRay) → r ≡ start pupil → Arriving 0 (tab (λ (w : ℕ). r) 4)
  unfolding arriving
  starting r e = tab-same _ _ 4 (λ w h. e)

  arrives : (k w : ℕ) (rays : List ArrivingRay) → Arriving k rays → w < 4 → get_or rays w no_arriving ≡ arriving surface (index w) pupil k
  arrives k w rays e h = ap (λ (l : List ArrivingRay). get_or l w no_arriving) e ∙ get_or-tab _ 4 w no_arriving h

  goes_on : (k w : ℕ) (rays next : List ArrivingRay) → Onward k rays next → w < 4 → get_or next w no_arriving
      ≡ onward (surface k) (index w k) (get_or rays w no_arriving)
  goes_on k w rays next f h = ap (λ (l : List ArrivingRay). get_or l w no_arriving) f ∙ get_or-tab _ 4 w no_arriving h

  pub arriving-next : (k : ℕ) (rays next : List ArrivingRay) → Arriving k rays → Onward k rays next → Arriving (k + 1) next
  arriving-next k rays next e f = f ∙ tab-same _ _ 4 (λ w h. arriving-more surface (index w) pupil k (get_or rays w no_arriving) _ (arrives k w rays e h) refl)

  -- the rays at the last two surfaces of a slot
  pub last-are : (count : ℕ) (first second third : List ArrivingRay) → 2 ≤ count → Arriving (count - 2) first → Onward (count - 2) first second
      → Onward (count - 2 + 1) second third → (w : ℕ) → w < 4
      → rays_between (get_or first w no_arriving) (get_or second w no_arriving) (get_or third w no_arriving) ≡ last_rays surface (index w) pupil count
  last-are count first second third two e f g w h =
      let before =
      ray-turned surface (index w) pupil (count - 2) (get_or first w no_arriving) (get_or second w no_arriving) (arrives _ w first e h)
      (goes_on _ w first second f h) in
      let last =
      ray-turned surface (index w) pupil (count - 2 + 1) (get_or second w no_arriving) (get_or third w no_arriving)
      (arrives _ w second (arriving-next _ first second e f) h) (goes_on _ w second third g h) in
      let one : count - 2 + 1 ≡ count - 1 = omega arith in
      λ i. record { before = before i; last = (last ∙ ap (ray_at surface (index w) pupil) one) i }

  -- the properties of a slot, out of those rays
  pub traced : (count : ℕ) (rays : List LastRays) → 2 ≤ count → rays ≡ tab (λ (w : ℕ). last_rays surface (index w) pupil count) 4 → (w : ℕ) → w < 4
      → (q : ParaxialProperties)
      → q ≡ properties_behind (get_or rays w no_last) surface (index w) pupil count → Some q ≡ paraxial_of surface (index w) pupil count
  unfolding paraxial_of
  traced count rays two e w h q f =
      let last = ap (λ (l : List LastRays). get_or l w no_last) e ∙ get_or-tab _ 4 w no_last h in
      ap Some (f ∙ ap (λ (r : LastRays). properties_behind r surface (index w) pupil count) last) ∙ sym (simp (le-ltb count 2 two))
