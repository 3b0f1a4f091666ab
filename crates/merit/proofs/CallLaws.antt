-- What callers may use of the calls' refusals: each number is answered exactly when its cause holds and no cause in front of it does. Assumes nothing.
use Rattle.std.specs.Prelude.{◌≡◌, Bool, true, false, not, ◌&&◌, ◌↔◌, T, leb, ltb, eqb, Result, Ok, Err}
use Rattle.std.proofs.Math.Path.{refl}
use Rattle.std.proofs.Common.{sym, ◌∙◌, subst, arith, leb→le, ltb→lt, eqb→eq}
use Prim.Native.Nat.{ℕ, zero, suc, ◌≤◌, ◌<◌}
use Rattle.std.specs.Float.Ieee.Fits.{and_l, and_r}
use Rattle.lists.specs.Refusals.{NoneOf, before, answers, answers-none, none_of, let_through}
use Rattle.optics.specs.Kept.{lens_counts_taken}
use Rattle.optics.specs.Check.{lens_taken}
use Rattle.optics.specs.declared.types.OpticalPrescription.{OpticalPrescription}
use Rattle.merit.specs.Check.{operands_taken}
use Rattle.merit.specs.Calls.{unless_refused, evaluate_refusals, evaluate_number, lens_evaluation, evaluated_as}
use Rattle.merit.specs.Calls.{trace_refusals, trace_number, answer_of, traced_number, trace_answer}
use Rattle.merit.proofs.Unrefused.{unrefused, number_of}
use Rattle.merit.specs.Passing.{Evaluable, Traceable}
use Rattle.merit.specs.declared.types.MeritEvaluation.{MeritEvaluation}
use Rattle.merit.specs.declared.types.MeritFunction.{MeritFunction}
use Rattle.merit.specs.declared.types.Traced.{Traced}
use Rattle.merit.specs.declared.types.Traced.TheVariants.{Done, Failed}

counts-parts : (surfaces slots : ℕ) → T (lens_counts_taken surfaces slots) → (surfaces ≤ 16) × (1 ≤ slots) × (slots ≤ 4)
counts-parts surfaces slots t =
    let l = and_l (leb surfaces 16 && leb 1 slots) (leb slots 4) t in (
      leb→le surfaces 16 (and_l (leb surfaces 16) (leb 1 slots) l),
      leb→le 1 slots (and_r (leb surfaces 16) (leb 1 slots) l),
      leb→le slots 4 (and_r (leb surfaces 16 && leb 1 slots) (leb slots 4) t),
    )

-- counts that passed their test leave room for the lens's own
pub counts-room : (p : OpticalPrescription) {b : Bool} → b ≡ lens_counts_taken p.surface_count p.slot_count → not b ≡ false
    → (p.surface_count ≤ 16) × (p.slot_count ≤ 4)
counts-room p {b} e h =
    let k = counts-parts p.surface_count p.slot_count (subst T e (let_through b h)) in
    (k.0, k.2)

-- ---- what a refusal leaves
pub none : (n : ℕ) → n ≤ 0 → n ≡ 0
none n h = omega arith

pub stays : {A : Type 0} (n : ℕ) (new old : A) → 0 < n → unless_refused n new old ≡ old
stays zero new old h = absurd (no h)
  where
    no : 0 < 0 → ⊥
    no h = omega arith
stays (suc n) new old h = refl

-- ---- evaluate
module _ (p : OpticalPrescription) (f : MeritFunction) where
  -- "a refused call changes nothing"
  pub evaluate-keeps : (old : MeritEvaluation) → 0 < evaluate_number p f → evaluated_as old p f ≡ old
  evaluate-keeps old h = stays (evaluate_number p f) (lens_evaluation p f) old h

  abbrev counted : Bool
  counted = lens_counts_taken p.surface_count p.slot_count && leb f.operand_count 12

  pub evaluate-1 : (evaluate_number p f ≡ 1) ↔ ((not counted ≡ true) × NoneOf (before 1 (evaluate_refusals p f)))
  unfolding evaluate_number
  evaluate-1 = answers (evaluate_refusals p f) 1 tt tt

  pub evaluate-3 : (evaluate_number p f ≡ 3) ↔ ((not (lens_taken p) ≡ true) × NoneOf (before 3 (evaluate_refusals p f)))
  unfolding evaluate_number
  evaluate-3 = answers (evaluate_refusals p f) 3 tt tt

  pub evaluate-5 : (evaluate_number p f ≡ 5) ↔ ((not (operands_taken p.slot_count f) ≡ true) × NoneOf (before 5 (evaluate_refusals p f)))
  unfolding evaluate_number
  evaluate-5 = answers (evaluate_refusals p f) 5 tt tt

  pub evaluate-0 : (evaluate_number p f ≡ 0) ↔ NoneOf (evaluate_refusals p f)
  unfolding evaluate_number
  evaluate-0 = answers-none (evaluate_refusals p f) tt

  pub evaluable : evaluate_number p f ≡ 0 → Evaluable p f
  evaluable e =
      let h = evaluate-0.0 e in
      let c = let_through counted (none_of (evaluate_refusals p f) 1 h) in
      let k = counts-parts p.surface_count p.slot_count
      (and_l (lens_counts_taken p.surface_count p.slot_count) (leb f.operand_count 12) c) in
      record {
        surfaces = k.0;
        slots = k.2;
        operands = leb→le f.operand_count 12 (and_r (lens_counts_taken p.surface_count p.slot_count) (leb f.operand_count 12) c);
        lens = let_through (lens_taken p) (none_of (evaluate_refusals p f) 3 h);
        taken = let_through (operands_taken p.slot_count f) (none_of (evaluate_refusals p f) 5 h);
      }

-- ---- trace
abbrev Refusing : Result Traced ℕ → Type 0
Refusing (Ok a) = ⊥
Refusing (Err n) = Unit {0}

not-suc : (n : ℕ) → suc n ≡ 0 → ⊥
not-suc n e = omega arith

answer-done : (n count : ℕ) → (answer_of n count ≡ Ok Done) ↔ ((n ≡ 0) × (2 ≤ count))
answer-done zero count = let by = (unrefused count (ltb count 2) refl).0 in (λ e. (refl, by.0 e), λ h. by.1 h.1)
answer-done (suc n) count = (λ e. absurd (subst Refusing e tt), λ h. absurd (not-suc n h.0))

answer-failed : (n count : ℕ) → (answer_of n count ≡ Ok Failed) ↔ ((n ≡ 0) × (count < 2))
answer-failed zero count = let by = (unrefused count (ltb count 2) refl).1 in (λ e. (refl, by.0 e), λ h. by.1 h.1)
answer-failed (suc n) count = (λ e. absurd (subst Refusing e tt), λ h. absurd (not-suc n h.0))

module _ (p : OpticalPrescription) (slot rows : ℕ) where
  abbrev fitting : Bool
  fitting = lens_counts_taken p.surface_count p.slot_count && eqb rows p.surface_count

  pub traced-number : traced_number (trace_answer p slot rows) ≡ trace_number p slot rows
  unfolding trace_answer
  traced-number = number_of (trace_number p slot rows) p.surface_count

  by_answer : {n : ℕ} {C : Type 0} → (trace_number p slot rows ≡ n) ↔ C → (traced_number (trace_answer p slot rows) ≡ n) ↔ C
  by_answer h = (λ e. h.0 (sym traced-number ∙ e), λ c. traced-number ∙ h.1 c)

  pub trace-1 : (traced_number (trace_answer p slot rows) ≡ 1) ↔ ((not fitting ≡ true) × NoneOf (before 1 (trace_refusals p slot rows)))
  unfolding trace_number
  trace-1 = by_answer (answers (trace_refusals p slot rows) 1 tt tt)

  pub trace-3 : (traced_number (trace_answer p slot rows) ≡ 3) ↔ ((not (lens_taken p) ≡ true) × NoneOf (before 3 (trace_refusals p slot rows)))
  unfolding trace_number
  trace-3 = by_answer (answers (trace_refusals p slot rows) 3 tt tt)

  pub trace-5 : (traced_number (trace_answer p slot rows) ≡ 5) ↔ ((not (ltb slot p.slot_count) ≡ true) × NoneOf (before 5 (trace_refusals p slot rows)))
  unfolding trace_number
  trace-5 = by_answer (answers (trace_refusals p slot rows) 5 tt tt)

  pub trace-0 : (traced_number (trace_answer p slot rows) ≡ 0) ↔ NoneOf (trace_refusals p slot rows)
  unfolding trace_number
  trace-0 = by_answer (answers-none (trace_refusals p slot rows) tt)

  none-refuses : (trace_number p slot rows ≡ 0) ↔ NoneOf (trace_refusals p slot rows)
  none-refuses = (λ e. trace-0.0 (traced-number ∙ e), λ h. sym traced-number ∙ trace-0.1 h)

  -- "Fewer than two surfaces is a failed trace"; else it is done, unless it is refused
  pub trace-done : (trace_answer p slot rows ≡ Ok Done) ↔ (NoneOf (trace_refusals p slot rows) × (2 ≤ p.surface_count))
  unfolding trace_answer
  trace-done =
      let by = answer-done (trace_number p slot rows) p.surface_count in
      (λ e. (none-refuses.0 (by.0 e).0, (by.0 e).1), λ h. by.1 (none-refuses.1 h.0, h.1))

  pub trace-failed : (trace_answer p slot rows ≡ Ok Failed) ↔ (NoneOf (trace_refusals p slot rows) × (p.surface_count < 2))
  unfolding trace_answer
  trace-failed =
      let by = answer-failed (trace_number p slot rows) p.surface_count in
      (λ e. (none-refuses.0 (by.0 e).0, (by.0 e).1), λ h. by.1 (none-refuses.1 h.0, h.1))

  pub traceable : trace_number p slot rows ≡ 0 → Traceable p slot rows
  traceable e =
      let h = trace-0.0 (traced-number ∙ e) in
      let c = let_through fitting (none_of (trace_refusals p slot rows) 1 h) in
      let k = counts-parts p.surface_count p.slot_count
      (and_l (lens_counts_taken p.surface_count p.slot_count) (eqb rows p.surface_count) c) in
      let l : slot < p.slot_count = ltb→lt slot p.slot_count (let_through (ltb slot p.slot_count) (none_of (trace_refusals p slot rows) 5 h)) in
      record {
        surfaces = k.0;
        row = eqb→eq rows p.surface_count (and_r (lens_counts_taken p.surface_count p.slot_count) (eqb rows p.surface_count) c);
        lens = let_through (lens_taken p) (none_of (trace_refusals p slot rows) 3 h);
        there = l;
        below = omega (arith, k.2);
      }

  -- a trace that is done was not refused
  pub done-traceable : trace_answer p slot rows ≡ Ok Done → Traceable p slot rows
  unfolding trace_answer
  done-traceable e = traceable (go (trace_number p slot rows) e)
    where
      go : (n : ℕ) → answer_of n p.surface_count ≡ Ok Done → n ≡ 0
      go zero e = refl
      go (suc n) e = absurd (subst Refusing e tt)
