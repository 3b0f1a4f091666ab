-- The Jacobian by central differences, as in `dls.rs`. Definitions only.
use Rattle.std.specs.Prelude.{ℕ, cond, List, get_or, Float}
use Rattle.std.proofs.lemmas.List.Edits.{sets}
use Rattle.std.specs.Float.{nan, binary64}
use Rattle.std.specs.Float.Ieee.{add, sub, mul, div, lt, neg, of_bits}
use Rattle.lists.specs.Tab.{tab}
use Rattle.floats.specs.Basic.{magnitude, clamp_of, max_of, finite_of}
use Rattle.floats.specs.Constants.{zero64}
use Rattle.normal.specs.Layout.{jacobian_place}

-- 1e-7, the least perturbation
abbrev pub least_delta : Float
least_delta = of_bits binary64 0x3e7a_d7f2_9abc_af48

-- 1e-14, above which a denominator counts
abbrev pub least_denominator : Float
least_denominator = of_bits binary64 0x3d06_849b_86a1_2b9b

-- 1e8, the largest entry
abbrev pub most_slope : Float
most_slope = of_bits binary64 0x4197_d784_0000_0000

-- by how much a parameter is moved: relative to its magnitude, at least the variable's step, at least 1e-7
abbrev pub delta_of : Float → Float → Float → Float
delta_of x0 relative_step step_size = max_of (max_of (mul binary64 (magnitude x0) relative_step) step_size) least_delta

-- the parameter moved up, and moved down, kept within its bounds
abbrev pub plus_value : Float → Float → Float → Float → Float
plus_value x0 delta lo hi = clamp_of (add binary64 x0 delta) lo hi

abbrev pub minus_value : Float → Float → Float → Float → Float
minus_value x0 delta lo hi = clamp_of (sub binary64 x0 delta) lo hi

-- what lies between the two: the step that was taken up and the one that was taken down, each from the parameter itself
abbrev pub denominator_of : Float → Float → Float → Float
denominator_of x0 plus minus = add binary64 (sub binary64 plus x0) (sub binary64 x0 minus)

-- the clamped quotient of two residuals' difference, where that is finite
abbrev pub slope_of : Float → Float → Float
slope_of difference denominator = cond (finite_of difference) (clamp_of (div binary64 difference denominator) (neg most_slope) most_slope) zero64

-- an entry is 0 unless the denominator's magnitude is above 1e-14 and the difference is finite
abbrev pub jacobian_entry : Float → Float → Float → Float
jacobian_entry plus minus denominator = cond (lt least_denominator (magnitude denominator)) (slope_of (sub binary64 plus minus) denominator) zero64

-- column q for m operands, out of the residuals on either side
abbrev pub column_of : List Float → List Float → ℕ → Float → List Float
column_of plus minus m denominator = tab (λ (i : ℕ). jacobian_entry (get_or plus i nan) (get_or minus i nan) denominator) m

-- the flat Jacobian with column q written
abbrev pub with_column : List Float → ℕ → List Float → List Float
with_column jacobian q column = sets jacobian (jacobian_place 0 q) column

-- operand i in column q
abbrev pub jacobian_at : List Float → ℕ → ℕ → Float
jacobian_at jacobian i q = get_or jacobian (jacobian_place i q) nan

-- operand i's residual
abbrev pub residual_at : List Float → ℕ → Float
residual_at residuals i = get_or residuals i nan
