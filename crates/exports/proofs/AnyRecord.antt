-- `lens_evaluate` of any record of numbers. Assumes nothing.
use Rattle.std.specs.Prelude.{◌≡◌, Bool, not, ◌&&◌, ℕ, ◌<◌, ◌≤◌}
use Rattle.std.proofs.Math.Path.{refl, sym, ap}
use Rattle.std.proofs.Common.{◌∙◌, lt→ltb}
use Rattle.std.proofs.Math.Bool.{true, false, cond}
use Rattle.std.proofs.Math.Dec.{ltb}
use Rattle.std.specs.Float.Ieee.Bits.{is_true}
use borrow.Author.Tests.{ltb-true, le-ltb, lt-leb}
use Rattle.lists.specs.All.{all_from, not-all}
use Rattle.optics.specs.Kept.{lens_counts_taken}
use Rattle.optics.specs.declared.types.OpticalPrescription.{OpticalPrescription}
use Rattle.merit.specs.declared.types.MeritFunction.{MeritFunction}
use Rattle.merit.specs.Calls.{evaluate_number}
use Rattle.merit.proofs.CallLaws.{evaluate-1}
use Rattle.jobs.specs.declared.types.JobRecord.{JobRecord}
use Rattle.jobs.specs.Entries.{operand_known}
use Rattle.jobs.specs.Records.{operand_record_at, known_operands}
use Rattle.exports.specs.Lenses.{lens_of, function_of, are_operands, evaluate_record_number}

-- `evaluate` of more than 12 operands
pub too_many : (p : OpticalPrescription) (f : MeritFunction) → 12 < f.operand_count → evaluate_number p f ≡ 1
too_many p f m = (evaluate-1 p f).1 (no-count (lens_counts_taken p.surface_count p.slot_count) (lt-leb _ _ m), tt)
  where
    no-count : (b : Bool) {c : Bool} → c ≡ false → not (b && c) ≡ true
    no-count true e = ap not e
    no-count false e = refl

-- ---- any record
module _ (r : JobRecord) where
  pub all_known : ((n : ℕ) → n < r.operand_count → (operand_record_at r n).kind < 8) → known_operands r ≡ true
  all_known h = is_true (known_operands r) (all_from _ _ (λ n l. lt→ltb _ _ (h n l)))

  pub when-known : known_operands r ≡ true → evaluate_record_number r ≡ evaluate_number (lens_of r) (function_of r)
  unfolding evaluate_record_number are_operands
  when-known k =
      let number = evaluate_number (lens_of r) (function_of r) in
      ap (λ (all : Bool). cond (not (ltb 12 r.operand_count) && all) number 1) k ∙ by (ltb 12 r.operand_count) refl
    where
      by : (b : Bool) → ltb 12 r.operand_count ≡ b
          → cond (not b && true) (evaluate_number (lens_of r) (function_of r)) 1 ≡ evaluate_number (lens_of r) (function_of r)
      by true e = sym (too_many (lens_of r) (function_of r) (ltb-true _ _ e))
      by false e = refl

  pub when-unknown : (n : ℕ) → n < r.operand_count → 8 ≤ (operand_record_at r n).kind → evaluate_record_number r ≡ 1
  unfolding evaluate_record_number are_operands
  when-unknown n l m = by (ltb 12 r.operand_count) (not-all (λ (i : ℕ). operand_known (operand_record_at r i)) _ n l (le-ltb _ _ m))
    where
      by : (b : Bool) {k : Bool} → k ≡ false → cond (not b && k) (evaluate_number (lens_of r) (function_of r)) 1 ≡ 1
      by true e = refl
      by false e = rw e
