-- What the calls by value make of their parts. Assumes nothing.
use mathlib.Core.Path.{◌≡◌, refl, sym, ap, ◌∙◌}
use mathlib.Core.List.{List, ◌++◌}
use Prim.Native.Nat.{ℕ, ◌*◌, ◌≤◌, ◌<◌}
use native.Mathlib.Omega.{arith}
use lib.Ieee.{Float}
use lib.ListN.{length, replicate, drop, length-append}
use borrow.Author.Tests.{lt-ltb, le-ltb}
use Rattle.floats.specs.Constants.{zero64}
use Rattle.lists.specs.Tab.{tab, tab-same}
use Rattle.optics.specs.Flat.{laid_flat}
use Rattle.optics.specs.FlatLaws.{length-laid, flat-laid}
use Rattle.optics.specs.TraceLaws.{ray-same, rays-are}
use Rattle.optics.specs.Trace.{ray_at, rays_of}
use Rattle.optics.specs.Types.{surface_at, flat_surface, slot_index}
use Rattle.optics.specs.Laid.{lens_surface, lens_index}
use Rattle.optics.specs.declared.lens.LaidLens.{LaidLens}
use Rattle.optics.specs.declared.types.OpticalPrescription.{OpticalPrescription}
use Rattle.optics.specs.declared.types.OpticalSurface.{OpticalSurface}
use Rattle.optics.specs.declared.types.ParaxialRay.{ParaxialRay}
use Rattle.merit.specs.Calls.{unless_refused, evaluate_number, lens_evaluation, evaluated_as, lens_ray, lens_trace, trace_number}
use Rattle.merit.specs.Calls.{answer_of, trace_answer, traced_row, traced_rays}
use Rattle.merit.proofs.CallLaws.{evaluate-keeps}
use Rattle.refusals.specs.Numbers.{number_of}
use Rattle.refusals.proofs.Laws.{number-distinct, value-refused}
use Rattle.refusals.specs.declared.Refusal.{Refusal}
use Rattle.std.specs.Prelude.{Result, Ok, Err}
use Rattle.merit.specs.Evaluation.{evaluation_of}
use Rattle.merit.proofs.EvaluationLaws.{evaluation-same}
use Rattle.merit.specs.Steps.{SlotsKnown}
use Rattle.merit.specs.declared.types.MeritEvaluation.{MeritEvaluation}
use Rattle.merit.specs.declared.types.MeritFunction.{MeritFunction}
use Rattle.merit.specs.declared.types.Traced.{Traced}
use Rattle.merit.specs.declared.types.Traced.TheVariants.{Done, Failed}

pub laid-room : (surfaces : List OpticalSurface) (n : ℕ) (rest flat : List Float) → flat ≡ laid_flat surfaces n ++ rest → 4 * n ≤ length flat
laid-room surfaces n rest flat e = rw (e, length-append, length-laid surfaces n) (omega arith)

-- surfaces laid flat evaluate as the lens does
pub laid-evaluation : (p : OpticalPrescription) (f : MeritFunction) (rest flat : List Float) → flat ≡ laid_flat p.surfaces p.surface_count ++ rest
    → SlotsKnown f → evaluation_of (flat_surface flat) (slot_index p.indices) p.entrance_pupil_diameter_mm p.surface_count f ≡ lens_evaluation p f
laid-evaluation p f rest flat e known =
    let index = slot_index p.indices in
    let pupil = p.entrance_pupil_diameter_mm in
    let count = p.surface_count in
    ap (λ (l : List Float). evaluation_of (flat_surface l) index pupil count f) e
    ∙ evaluation-same _ (surface_at p.surfaces) index index pupil count f f (flat-laid p.surfaces count rest) (λ n i h l m. refl) known refl (λ n h. refl)

-- ---- evaluate: what the call keeps or stores
module _ (p : OpticalPrescription) (f : MeritFunction) (old : MeritEvaluation) where
  pub evaluation-kept : (r : Refusal) → number_of r ≡ evaluate_number p f → old ≡ evaluated_as old p f
  evaluation-kept r e = sym (evaluate-keeps p f old (rw e at (number-distinct r).0))

  pub evaluation-stored : evaluate_number p f ≡ 0 → lens_evaluation p f ≡ evaluated_as old p f
  evaluation-stored e = sym (ap (λ (n : ℕ). unless_refused n (lens_evaluation p f) old) e)

-- ---- trace
-- heights or slopes of surfaces laid flat are those of the lens
module _ (p : OpticalPrescription) (slot : ℕ) (rest flat : List Float) (e : flat ≡ laid_flat p.surfaces p.surface_count ++ rest)
    (part : ParaxialRay → Float) where
  agree : (k : ℕ) → k < p.surface_count → part (ray_at (flat_surface flat) (slot_index p.indices slot) p.entrance_pupil_diameter_mm k)
      ≡ part (lens_ray p slot k)
  agree k l =
      ap part
      (ap (λ (m : List Float). ray_at (flat_surface m) (slot_index p.indices slot) p.entrance_pupil_diameter_mm k) e
      ∙ ray-same (flat_surface (laid_flat p.surfaces p.surface_count ++ rest)) (surface_at p.surfaces) (slot_index p.indices slot)
      (slot_index p.indices slot) p.entrance_pupil_diameter_mm p.surface_count
      (flat-laid p.surfaces p.surface_count rest) (λ i m. refl) k l)

  pub heights-are : (lens : LaidLens) → lens.surfaces.flat.now ≡ flat → lens.surfaces.count ≡ p.surface_count → lens.indices.now ≡ p.indices
      → lens.pupil ≡ p.entrance_pupil_diameter_mm → (hs : List Float)
      → hs ≡ tab (λ (k : ℕ). part (ray_at (lens_surface lens) (lens_index lens slot) lens.pupil k)) lens.surfaces.count
      ++ drop lens.surfaces.count (replicate 16 zero64)
      → hs ≡ tab (λ (k : ℕ). part (lens_ray p slot k)) p.surface_count ++ drop p.surface_count (replicate 16 zero64)
  heights-are lens f c x u hs h =
      h
      ∙ (λ i. tab (λ (k : ℕ). part (ray_at (flat_surface (f i)) (slot_index (x i) slot) (u i) k)) (c i) ++ drop (c i) (replicate 16 zero64))
      ∙ (λ i. tab-same _ _ p.surface_count agree i ++ drop p.surface_count (replicate 16 zero64))

-- heights and slopes make the lens's trace
pub row-filled : (p : OpticalPrescription) (slot : ℕ) (rows : ℕ) → rows ≡ p.surface_count → (hs us rest rest' : List Float)
    → hs ≡ tab (λ (k : ℕ). (lens_ray p slot k).y) p.surface_count ++ rest → us ≡ tab (λ (k : ℕ). (lens_ray p slot k).u) p.surface_count ++ rest'
    → rays_of hs us rows ≡ lens_trace p slot
row-filled p slot rows e hs us rest rest' h u =
    (λ i. rays_of (h i) (u i) (e i))
    ∙ rays-are (surface_at p.surfaces) (slot_index p.indices slot) p.entrance_pupil_diameter_mm p.surface_count rest rest'

-- the answer, and the row that is left with it
module _ (p : OpticalPrescription) (slot : ℕ) (old : List ParaxialRay) where
  answered_as : (a : Result Traced ℕ) (new : List ParaxialRay) → answer_of (trace_number p slot (length old)) p.surface_count ≡ a
      → new ≡ traced_row a (lens_trace p slot) old → (a ≡ trace_answer p slot (length old)) × (new ≡ traced_rays p slot old)
  unfolding trace_answer
  answered_as a new e f = (sym e, f ∙ sym (ap (λ (b : Result Traced ℕ). traced_row b (lens_trace p slot) old) e))

  pub trace-refused : (r : Refusal) → number_of r ≡ trace_number p slot (length old)
      → (Err (number_of r) ≡ trace_answer p slot (length old)) × (old ≡ traced_rays p slot old)
  trace-refused r e =
      answered_as (Err (number_of r)) old (sym (value-refused r _ _ e)) refl

  module _ (e : trace_number p slot (length old) ≡ 0) where
    pub trace-failed : p.surface_count < 2 → (Ok Failed ≡ trace_answer p slot (length old)) × (old ≡ traced_rays p slot old)
    trace-failed few = answered_as (Ok Failed) old (rw (e, lt-ltb p.surface_count 2 few) refl) refl

    pub trace-done : 2 ≤ p.surface_count → (Ok Done ≡ trace_answer p slot (length old)) × (lens_trace p slot ≡ traced_rays p slot old)
    trace-done many = answered_as (Ok Done) (lens_trace p slot) (rw (e, le-ltb p.surface_count 2 many) refl) refl
