-- The top bit cleared by arithmetic on the pattern: what the selection by an array's index hands on, at a number and at a NaN. Assumes nothing.
use mathlib.Core.Path.{◌≡◌, refl, sym, ap, ◌∙◌, subst}
use mathlib.Core.Logic.{◌⊎◌, inl, inr}
use mathlib.Core.Bool.{Bool, true, false, not, ◌&&◌, ◌||◌}
use mathlib.Core.List.{[], ◌∷◌}
use Prim.Native.Nat.{ℕ, ◌*◌, ◌%◌, ◌<◌}
use native.Mathlib.Omega.{arith}
use lib.Dec.{T, eqb, eqb_refl}
use lib.ListN.{get_or}
use lib.Ieee.{Float, nan, inf, fin, binary64, eq, up, down, fits, is_nan, nan_bits, to_bits, of_bits}
use lib.Ieee.Bits.{of_bits-to_bits, nan_bits_is}
use mir.Val.{bool_byte}
use Rattle.floats.specs.Basic.{magnitude}
use Rattle.floats.proofs.MagnitudeLaws.{magnitude-fits, magnitude-bits, magnitude-nan}

cleared : (x : Float) → T (fits binary64 x) → T (not (is_nan x)) → of_bits binary64 (to_bits binary64 x % 9223372036854775808) ≡ magnitude x
cleared x t n = ap (of_bits binary64) (sym (magnitude-bits x t n)) ∙ of_bits-to_bits binary64 (magnitude x) (magnitude-fits x t)

magnitude-number : (x : Float) → T (not (is_nan x)) → T (not (is_nan (magnitude x)))
unfolding is_nan magnitude
magnitude-number nan n = n
magnitude-number (inf s) n = tt
magnitude-number (fin s m e) n = tt

-- ---- a NaN, or a number that equals itself
both : (a b : Bool) → T a → a && (true || b) ≡ true
both true b t = refl
both false b t = elim t [ ]

abbrev Number : Float → Type 0
Number x = (eq x x ≡ true) × T (not (is_nan x))

pub number-or-nan : (x : Float) → (x ≡ nan) ⊎ Number x
unfolding eq is_nan
number-or-nan nan = inl refl
number-or-nan (inf true) = inr (refl, tt)
number-or-nan (inf false) = inr (refl, tt)
number-or-nan (fin true m e) = inr (both (eqb (m * up e * down e) (m * up e * down e)) (eqb (m * up e * down e) 0) (eqb_refl (m * up e * down e)), tt)
number-or-nan (fin false m e) = inr (both (eqb (m * up e * down e) (m * up e * down e)) (eqb (m * up e * down e) 0) (eqb_refl (m * up e * down e)), tt)

-- ---- the code's three values
abbrev pub taken : Float → Float
taken x = get_or (of_bits binary64 0 ∷ x ∷ []) (bool_byte (eq x x)) nan

abbrev pub bits : Float → ℕ
bits x = to_bits binary64 (taken x) % 9223372036854775808

abbrev pub given : Float → Float
given x = get_or (x ∷ of_bits binary64 (bits x) ∷ []) (bool_byte (eq x x)) nan

pub byte_small : (b : Bool) → bool_byte b < 2
byte_small true = omega arith
byte_small false = omega arith

pub taken-number : (x : Float) → T (not (is_nan (taken x)))
unfolding is_nan eq
taken-number x = elim (number-or-nan x) [
  | inl p ↦ subst (λ (y : Float). T (not (is_nan (taken y)))) (sym p) (unfold of_bits in tt)
  | inr q ↦ subst (λ (b : Bool). T (not (is_nan (get_or (of_bits binary64 0 ∷ x ∷ []) (bool_byte b) nan)))) (sym q.0) q.1
]

pub bits-number : (x : Float) → T (fits binary64 x) → T (not (nan_bits binary64 (bits x)))
bits-number x t = elim (number-or-nan x) [
  | inl p ↦ subst (λ (y : Float). T (not (nan_bits binary64 (bits y)))) (sym p) (unfold nan_bits to_bits of_bits eq in tt)
  | inr q ↦
      subst (λ (b : Bool). T (not (nan_bits binary64 (to_bits binary64 (get_or (of_bits binary64 0 ∷ x ∷ []) (bool_byte b) nan) % 9223372036854775808))))
      (sym q.0)
      (subst (λ (b : Bool). T (not b)) (sym (nan_bits_is binary64 (to_bits binary64 x % 9223372036854775808)))
      (subst (λ (y : Float). T (not (is_nan y))) (sym (cleared x t q.1)) (magnitude-number x q.1)))
]

pub given-magnitude : (x : Float) → T (fits binary64 x) → given x ≡ magnitude x
given-magnitude x t = elim (number-or-nan x) [
  | inl p ↦ subst (λ (y : Float). given y ≡ magnitude y) (sym p) (unfold eq in sym magnitude-nan)
  | inr q ↦
      subst (λ (b : Bool). get_or (x ∷ of_bits binary64 (to_bits binary64 (get_or (of_bits binary64 0 ∷ x ∷ []) (bool_byte b) nan) % 9223372036854775808) ∷ [])
      (bool_byte b) nan ≡ magnitude x)
      (sym q.0) (cleared x t q.1)
]
