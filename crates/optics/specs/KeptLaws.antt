-- The entries in use of a prescription as it is kept are those that were handed in; refusal 3 looks at no others. Assumes nothing.
use Rattle.std.specs.Prelude.{◌≡◌, refl, Bool, true, false, ◌&&◌, ◌⊎◌, ℕ, ◌+◌, ◌*◌, ◌/◌, ◌%◌, ◌≤◌, ◌<◌, get_or, ltb}
use Rattle.std.proofs.Math.Path.{ap}
use Rattle.std.proofs.Common.{inl, inr, arith, lt-ltb, le-ltb}
use Rattle.std.specs.Float.{nan}
use Rattle.floats.specs.Constants.{zero64}
use Rattle.lists.specs.All.{all_same}
use Rattle.lists.specs.Kept.{below, kept-used}
use Rattle.optics.specs.Types.{no_surface, zero_surface, surface_at, slot_index}
use Rattle.optics.specs.Check.{pupil_taken, surface_taken, surfaces_taken, index_taken, row_taken, indices_taken, lens_taken}
use Rattle.optics.specs.Kept.{index_used, kept_prescription}
use Rattle.optics.specs.declared.types.OpticalPrescription.{OpticalPrescription}

-- entry k of the indices is that of surface k / 4 in slot k % 4
surface-at : (i w : ℕ) → w < 4 → (i * 4 + w) / 4 ≡ i
surface-at i w h = omega arith

slot_at : (i w : ℕ) → w < 4 → (i * 4 + w) % 4 ≡ w
slot_at i w h = omega arith

pub index-used : (count slots i w : ℕ) → slots ≤ 4 → i < count → w < slots → index_used count slots (i * 4 + w) ≡ true
index-used count slots i w n h l = rw (surface-at i w (omega arith), slot_at i w (omega arith), lt-ltb i count h) (lt-ltb w slots l)

pub index-unused : (count slots i w : ℕ) → w < 4 → (count ≤ i) ⊎ (slots ≤ w) → index_used count slots (i * 4 + w) ≡ false
index-unused count slots i w b (inl h) = rw (surface-at i w b, le-ltb i count h)
index-unused count slots i w b (inr h) = rw (surface-at i w b, slot_at i w b, le-ltb w slots h) (no (ltb i count))
  where
    no : (c : Bool) → c && false ≡ false
    no true = refl
    no false = refl

module _ (p : OpticalPrescription) (m : p.surface_count ≤ 16) where
  surface-kept : (i : ℕ) → i < p.surface_count → surface_at (kept_prescription p).surfaces i ≡ surface_at p.surfaces i
  surface-kept i h = kept-used (below p.surface_count) (surface_at p.surfaces) zero_surface 16 i no_surface (omega arith) (lt-ltb i _ h)

  module _ (n : p.slot_count ≤ 4) where
    index_kept : (i w : ℕ) → i < p.surface_count → w < p.slot_count → slot_index (kept_prescription p).indices w i ≡ slot_index p.indices w i
    index_kept i w h l =
        kept-used (index_used p.surface_count p.slot_count) (λ (k : ℕ). get_or p.indices k nan) zero64 64 (i * 4 + w) nan (omega arith)
        (index-used p.surface_count p.slot_count i w n h l)

    row_kept : (i : ℕ) → i < p.surface_count → row_taken (kept_prescription p).indices p.slot_count i ≡ row_taken p.indices p.slot_count i
    row_kept i h = all_same _ _ p.slot_count (λ w l. ap index_taken (index_kept i w h l))

    pub lens-kept : lens_taken (kept_prescription p) ≡ lens_taken p
    unfolding lens_taken
    lens-kept = λ i. pupil_taken p.entrance_pupil_diameter_mm && surfaces i && indices i
      where
        surfaces : surfaces_taken (kept_prescription p).surfaces p.surface_count ≡ surfaces_taken p.surfaces p.surface_count
        surfaces = all_same _ _ p.surface_count (λ k h. ap surface_taken (surface-kept k h))

        indices : indices_taken (kept_prescription p).indices p.slot_count p.surface_count
            ≡ indices_taken p.indices p.slot_count p.surface_count
        indices = all_same _ _ p.surface_count row_kept
