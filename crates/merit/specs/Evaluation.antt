-- Residuals, terms and the merit of a lens. Definitions only.
use Rattle.std.specs.Prelude.{ℕ, zero, suc, ◌-◌, cond, List, ◌++◌, replicate, set, Float}
use Rattle.std.specs.Float.{binary64}
use Rattle.std.specs.Float.Ieee.{add, sub, mul, neg, of_bits}
use Rattle.floats.specs.Basic.{clamp_of, finite_of}
use Rattle.floats.specs.Constants.{zero64}
use Rattle.floats.specs.Sqrt.{sqrt_of}
use Rattle.lists.specs.Tab.{tab}
use Rattle.optics.specs.declared.types.OpticalSurface.{OpticalSurface}
use Rattle.optics.specs.Properties.{paraxial_of}
use Rattle.merit.specs.OperandTable.{operand_at}
use Rattle.merit.specs.Operands.{value_of}
use Rattle.merit.specs.declared.types.MeritEvaluation.{MeritEvaluation}
use Rattle.merit.specs.declared.types.MeritFunction.{MeritFunction}
use Rattle.merit.specs.declared.types.MeritOperand.{MeritOperand}

-- 1e6
abbrev pub million : Float
million = of_bits binary64 0x412e_8480_0000_0000

-- "The difference is clamped to ±1e6"
unfoldable pub difference : MeritOperand → Float → Float
difference o value = clamp_of (sub binary64 value o.target) (neg million) million

-- "the residual is sqrt(weight) × difference"
unfoldable pub residual : MeritOperand → Float → Float
residual o value = mul binary64 (sqrt_of o.weight) (difference o value)

-- "the term weight × difference × difference", from the left
unfoldable pub term : MeritOperand → Float → Float
term o value = mul binary64 (mul binary64 o.weight (difference o value)) (difference o value)

-- "an overflowed total counts as the greatest finite f64" (request 6)
unfoldable pub overflow_merit : Float
overflow_merit = of_bits binary64 0x7fef_ffff_ffff_ffff

unfoldable pub counted_total : Float → Float
counted_total x = cond (finite_of x) x overflow_merit

-- n entries by a rule, zero from there to twelve
abbrev pub entries : (ℕ → Float) → ℕ → List Float
entries f n = tab f n ++ replicate (12 - n) zero64

-- The evaluation of a lens: `surface` gives its surfaces, of which there are count, and `index w` the indices of slot w.
module _ (surface : ℕ → OpticalSurface) (index : ℕ → ℕ → Float) (pupil : Float) (count : ℕ) (function : MeritFunction) where
  -- the values after the first n operands, zero from there on
  unfoldable pub values_after : ℕ → List Float
  values_after zero = replicate 12 zero64
  values_after (suc n) =
      set (values_after n) n (value_of (values_after n) (λ (w : ℕ). paraxial_of surface (index w) pupil count) surface count
      (operand_at function n).operand_type)

  -- value n, after those before it
  abbrev pub value_at : ℕ → Float
  value_at n = value_of (values_after n) (λ (w : ℕ). paraxial_of surface (index w) pupil count) surface count (operand_at function n).operand_type

  abbrev pub residual_at : ℕ → Float
  residual_at n = residual (operand_at function n) (value_at n)

  -- the terms added in rising order, from +0.0
  unfoldable pub total : ℕ → Float
  total zero = zero64
  total (suc n) = add binary64 (total n) (term (operand_at function n) (value_at n))

  abbrev pub evaluation_of : MeritEvaluation
  evaluation_of = record {
    values = entries value_at function.operand_count;
    residuals = entries residual_at function.operand_count;
    total_merit = counted_total (total function.operand_count);
  }
