-- The two calls that stand alone: what refuses them and what they answer. Definitions only.
use Rattle.std.specs.Prelude.{ℕ, zero, suc, not, cond, ◌&&◌, List, [], ◌∷◌, leb, ltb, eqb, length, Result, Ok, Err}
use Rattle.lists.specs.Refusals.{Refusal, refusal, first_refusal}
use Rattle.refusals.specs.Numbers.{value_unless}
use Rattle.optics.specs.Kept.{lens_counts_taken}
use Rattle.optics.specs.Check.{lens_taken}
use Rattle.optics.specs.Trace.{ray_at, trace_of}
use Rattle.optics.specs.Types.{surface_at, slot_index}
use Rattle.optics.specs.declared.types.OpticalPrescription.{OpticalPrescription}
use Rattle.optics.specs.declared.types.ParaxialRay.{ParaxialRay}
use Rattle.merit.specs.Check.{operands_taken}
use Rattle.merit.specs.Evaluation.{evaluation_of}
use Rattle.merit.specs.declared.types.MeritEvaluation.{MeritEvaluation}
use Rattle.merit.specs.declared.types.MeritFunction.{MeritFunction}
use Rattle.merit.specs.declared.types.Traced.{Traced}
use Rattle.merit.specs.declared.types.Traced.TheVariants.{Done, Failed}

-- what a number refuses stays as it was: "nothing lent changes"
abbrev pub unless_refused : {A : Type 0} → ℕ → (new old : A) → A
unless_refused zero new old = new
unless_refused (suc n) new old = old

-- ---- evaluate: "1, 3 and 5"
module _ (p : OpticalPrescription) (f : MeritFunction) where
  abbrev pub evaluate_refusals : List Refusal
  evaluate_refusals =
      -- "Counts outside those above": the lens's, and at most 12 operands
      refusal 1 (not (lens_counts_taken p.surface_count p.slot_count && leb f.operand_count 12))
      ∷ refusal 3 (not (lens_taken p))
      ∷ refusal 5 (not (operands_taken p.slot_count f))
      ∷ []

  unfoldable pub evaluate_number : ℕ
  evaluate_number = first_refusal evaluate_refusals

  -- the evaluation of the lens as it is handed in
  abbrev pub lens_evaluation : MeritEvaluation
  lens_evaluation = evaluation_of (surface_at p.surfaces) (slot_index p.indices) p.entrance_pupil_diameter_mm p.surface_count f

-- what is lent, at exit
abbrev pub evaluated_as : (old : MeritEvaluation) → OpticalPrescription → MeritFunction → MeritEvaluation
evaluated_as old p f = unless_refused (evaluate_number p f) (lens_evaluation p f) old

-- ---- trace: "1, 3 and, for its slot, 5, over a row of one record per surface"
module _ (p : OpticalPrescription) (slot : ℕ) where
  abbrev pub trace_refusals : (rows : ℕ) → List Refusal
  trace_refusals rows =
      -- "Counts outside those above, or slices not of the lengths they imply."
      refusal 1 (not (lens_counts_taken p.surface_count p.slot_count && eqb rows p.surface_count))
      ∷ refusal 3 (not (lens_taken p))
      ∷ refusal 5 (not (ltb slot p.slot_count))
      ∷ []

  unfoldable pub trace_number : (rows : ℕ) → ℕ
  trace_number rows = first_refusal (trace_refusals rows)

  -- the rays of the lens as it is handed in
  abbrev pub lens_ray : ℕ → ParaxialRay
  lens_ray = ray_at (surface_at p.surfaces) (slot_index p.indices slot) p.entrance_pupil_diameter_mm

  abbrev pub lens_trace : List ParaxialRay
  lens_trace = trace_of (surface_at p.surfaces) (slot_index p.indices slot) p.entrance_pupil_diameter_mm p.surface_count

-- the answer, out of the number; "Fewer than two surfaces is a failed trace."
abbrev pub answer_of : (number count : ℕ) → Result Traced ℕ
answer_of number count = value_unless number (cond (ltb count 2) Failed Done)

-- the number of an answer: a failed trace is not refused
abbrev pub traced_number : Result Traced ℕ → ℕ
traced_number (Ok Done) = 0
traced_number (Ok Failed) = 0
traced_number (Err n) = n

-- the row of an answer: "unchanged when the trace fails"
abbrev pub traced_row : Result Traced ℕ → (new old : List ParaxialRay) → List ParaxialRay
traced_row (Ok Done) new old = new
traced_row (Ok Failed) new old = old
traced_row (Err n) new old = old

unfoldable pub trace_answer : OpticalPrescription → (slot rows : ℕ) → Result Traced ℕ
trace_answer p slot rows = answer_of (trace_number p slot rows) p.surface_count

-- what is lent, at exit
abbrev pub traced_rays : OpticalPrescription → (slot : ℕ) → (old : List ParaxialRay) → List ParaxialRay
traced_rays p slot old = traced_row (trace_answer p slot (length old)) (lens_trace p slot) old
