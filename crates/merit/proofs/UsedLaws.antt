-- Entries past the counts change nothing: neither call's answer, nor what it leaves of what is lent. Assumes nothing.
use Rattle.std.specs.Prelude.{◌≡◌, refl, Bool, not, ◌&&◌, List, [], ◌∷◌, ℕ, zero, suc, ◌<◌, ltb, length, Result, Ok, Err}
use Rattle.std.proofs.Math.Path.{ap}
use Rattle.std.proofs.Common.{◌∙◌}
use Rattle.std.proofs.Math.Dec.{leb, eqb}
use Rattle.lists.specs.All.{all_below, all_same}
use Rattle.lists.specs.Refusals.{refusal, first_refusal}
use Rattle.optics.specs.Kept.{lens_counts_taken}
use Rattle.optics.specs.Check.{pupil_taken, index_taken, surface_taken, row_taken, lens_taken}
use Rattle.optics.specs.Trace.{trace_of}
use Rattle.optics.specs.TraceLaws.{trace-same}
use Rattle.optics.specs.Types.{surface_at, slot_index}
use Rattle.optics.specs.declared.types.OpticalPrescription.{OpticalPrescription}
use Rattle.optics.specs.declared.types.ParaxialRay.{ParaxialRay}
use Rattle.merit.specs.Check.{operand_taken}
use Rattle.merit.proofs.CheckLaws.{kind-taken, slot-below, slots-known}
use Rattle.merit.specs.Evaluation.{evaluation_of}
use Rattle.merit.specs.OperandTable.{operand_at}
use Rattle.merit.proofs.EvaluationLaws.{evaluation-same}
use Rattle.merit.specs.Calls.{unless_refused, evaluate_number, lens_evaluation, evaluated_as, lens_trace, trace_number, answer_of, trace_answer, traced_row}
use Rattle.merit.specs.Calls.{traced_rays}
use Rattle.merit.proofs.CallLaws.{evaluable, done-traceable}
use Rattle.merit.specs.declared.types.MeritEvaluation.{MeritEvaluation}
use Rattle.merit.specs.declared.types.MeritFunction.{MeritFunction}
use Rattle.merit.specs.declared.types.Traced.{Traced}
use Rattle.merit.specs.declared.types.Traced.TheVariants.{Done, Failed}

-- two lenses with the same entries in use
pub record SameLens (p q : OpticalPrescription) : Type 0 where
  pub count : p.surface_count ≡ q.surface_count
  pub slots : p.slot_count ≡ q.slot_count
  pub pupil : p.entrance_pupil_diameter_mm ≡ q.entrance_pupil_diameter_mm
  pub surfaces : (i : ℕ) → i < p.surface_count → surface_at p.surfaces i ≡ surface_at q.surfaces i
  pub indices : (i w : ℕ) → i < p.surface_count → w < p.slot_count → slot_index p.indices w i ≡ slot_index q.indices w i

-- two functions with the same operands in use
pub record SameOperands (f g : MeritFunction) : Type 0 where
  pub count : f.operand_count ≡ g.operand_count
  pub operands : (n : ℕ) → n < f.operand_count → operand_at f n ≡ operand_at g n

all-agree : (s t : ℕ → Bool) (m n : ℕ) → m ≡ n → ((i : ℕ) → i < m → s i ≡ t i) → all_below s m ≡ all_below t n
all-agree s t m n e h = all_same s t m h ∙ ap (all_below t) e

module _ (p q : OpticalPrescription) (s : SameLens p q) where
  lens-agrees : lens_taken p ≡ lens_taken q
  unfolding lens_taken
  lens-agrees =
      let surfaces =
      all-agree (λ (i : ℕ). surface_taken (surface_at p.surfaces i)) (λ (i : ℕ). surface_taken (surface_at q.surfaces i)) _ _ s.count
      (λ i h. ap surface_taken (s.surfaces i h)) in
      let row : (i : ℕ) → i < p.surface_count → row_taken p.indices p.slot_count i ≡ row_taken q.indices q.slot_count i =
      λ i h. all-agree (λ (w : ℕ). index_taken (slot_index p.indices w i)) (λ (w : ℕ). index_taken (slot_index q.indices w i)) _ _ s.slots
      (λ w l. ap index_taken (s.indices i w h l)) in
      let indices = all-agree (row_taken p.indices p.slot_count) (row_taken q.indices q.slot_count) _ _ s.count row in
      λ i. pupil_taken (s.pupil i) && surfaces i && indices i

  -- ---- evaluate
  module _ (f g : MeritFunction) (o : SameOperands f g) where
    pub evaluate-same : evaluate_number p f ≡ evaluate_number q g
    unfolding evaluate_number
    evaluate-same =
        let operands =
        all-agree (λ (n : ℕ). operand_taken p.slot_count (operand_at f n)) (λ (n : ℕ). operand_taken q.slot_count (operand_at g n)) _ _ o.count
        (λ n h. λ i. operand_taken (s.slots i) (o.operands n h i)) in
        λ i. first_refusal (refusal 1 (not (lens_counts_taken (s.count i) (s.slots i)
        && leb (o.count i) 12)) ∷ refusal 3 (not (lens-agrees i)) ∷ refusal 5 (not (operands i)) ∷ [])

    pub evaluated-same : (old : MeritEvaluation) → evaluated_as old p f ≡ evaluated_as old q g
    evaluated-same old = go (evaluate_number p f) refl ∙ ap (λ (n : ℕ). unless_refused n (lens_evaluation q g) old) evaluate-same
      where
        go : (n : ℕ) → evaluate_number p f ≡ n → unless_refused n (lens_evaluation p f) old ≡ unless_refused n (lens_evaluation q g) old
        go zero e =
            let ok = evaluable p f e in
            evaluation-same (surface_at p.surfaces) (surface_at q.surfaces) (slot_index p.indices) (slot_index q.indices)
            p.entrance_pupil_diameter_mm p.surface_count f g
            s.surfaces (λ n i h l m. s.indices i _ m (slot-below p.slot_count _ (kind-taken p.slot_count f ok.taken n h) l))
            (slots-known p.slot_count ok.slots f ok.taken) o.count o.operands
            ∙ λ i. evaluation_of (surface_at q.surfaces) (slot_index q.indices) (s.pupil i) (s.count i) g
        go (suc n) e = refl

  -- ---- trace
  module _ (slot : ℕ) where
    number-agrees : (rows : ℕ) → trace_number p slot rows ≡ trace_number q slot rows
    unfolding trace_number
    number-agrees rows =
        λ i. first_refusal (refusal 1 (not (lens_counts_taken (s.count i) (s.slots i)
        && eqb rows (s.count i))) ∷ refusal 3 (not (lens-agrees i)) ∷ refusal 5 (not (ltb slot (s.slots i))) ∷ [])

    pub trace-answers-same : (rows : ℕ) → trace_answer p slot rows ≡ trace_answer q slot rows
    unfolding trace_answer
    trace-answers-same rows = λ i. answer_of (number-agrees rows i) (s.count i)

    pub traced-same : (old : List ParaxialRay) → traced_rays p slot old ≡ traced_rays q slot old
    traced-same old =
        go (trace_answer p slot (length old)) refl
        ∙ ap (λ (a : Result Traced ℕ). traced_row a (lens_trace q slot) old) (trace-answers-same (length old))
      where
        go : (a : Result Traced ℕ) → trace_answer p slot (length old) ≡ a → traced_row a (lens_trace p slot) old ≡ traced_row a (lens_trace q slot) old
        go (Ok Done) e =
            let there = (done-traceable p slot (length old) e).there in
            trace-same (surface_at p.surfaces) (surface_at q.surfaces) (slot_index p.indices slot) (slot_index q.indices slot)
            p.entrance_pupil_diameter_mm p.surface_count s.surfaces (λ i h. s.indices i slot h there)
            ∙ λ i. trace_of (surface_at q.surfaces) (slot_index q.indices slot) (s.pupil i) (s.count i)
        go (Ok Failed) e = refl
        go (Err n) e = refl
