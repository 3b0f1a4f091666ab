-- Request 6: an overflowed total is ranked last. Every finite f64 is at most what it counts, so it lies below none. Assumes nothing.
use Rattle.std.specs.Prelude.{◌≡◌, refl, Bool, true, false, not, ◌&&◌, T, leb, ltb, eqb, ℤ, pos, negsuc, Float}
use Rattle.std.proofs.Common.{sym, ◌∙◌, subst, le_trans, mul_assoc, mul-le-mul, mul-le-mul_right, lt_of_mul-lt-mul_right, le-mul_of_pos_right, arith, ltb→lt}
use Rattle.std.proofs.Common.{leb→le, pow-add, pow_pos, pow_mono}
use Rattle.std.proofs.Math.Path.{ap}
use Rattle.std.proofs.Math.Bool.{cond}
use Prim.Native.Nat.{ℕ, zero, suc, ◌+◌, ◌-◌, ◌*◌, ◌%◌, ◌^◌, ◌≤◌, ◌<◌}
use Rattle.std.proofs.Math.Dec.{nleb→lt}
use Rattle.std.specs.Float.{nan, inf, fin}
use Rattle.std.specs.Float.Ieee.{binary64, up, down, lt, le, fits, of_bits}
use Rattle.std.specs.Float.Ieee.Fits.{add-fits, cond-fits}
use Rattle.floats.specs.Basic.{finite_of}
use Rattle.floatlaws.specs.Fractions.{Finite, Under, under→le}
use Rattle.floatlaws.specs.Order.{lt_not_le}
use Rattle.optics.specs.declared.types.OpticalSurface.{OpticalSurface}
use Rattle.merit.specs.Evaluation.{overflow_merit, counted_total, total, evaluation_of}
use Rattle.merit.specs.declared.types.MeritFunction.{MeritFunction}

-- ---- of m × 2^k with m at most top, what lies below (top + 1) × 2^a is at most top × 2^a
at_most : (top m a k : ℕ) → m ≤ top → m * 2 ^ k < suc top * 2 ^ a → m * 2 ^ k ≤ top * 2 ^ a
at_most top m a k h l = go (leb k a) refl
  where
    apart : (d : ℕ) → m * 2 ^ (d + a) ≡ m * 2 ^ d * 2 ^ a
    apart d = ap (λ (n : ℕ). m * n) (pow-add 2 d a) ∙ sym (mul_assoc m (2 ^ d) (2 ^ a))

    beyond : (d : ℕ) → m * 2 ^ (d + a) < suc top * 2 ^ a → m * 2 ^ (d + a) ≤ top * 2 ^ a
    beyond d u =
        let v : m * 2 ^ d < suc top = lt_of_mul-lt-mul_right (2 ^ a) (subst (λ (n : ℕ). n < suc top * 2 ^ a) (apart d) u) in
        subst (λ (n : ℕ). n ≤ top * 2 ^ a) (sym (apart d)) (mul-le-mul_right (2 ^ a) (below (m * 2 ^ d) v))
      where
        below : (n : ℕ) → n < suc top → n ≤ top
        below n p = omega arith

    rest : (d : ℕ) → d + a ≡ k → m * 2 ^ k ≤ top * 2 ^ a
    rest d e = subst (λ (n : ℕ). m * 2 ^ n ≤ top * 2 ^ a) e (beyond d (subst (λ (n : ℕ). m * 2 ^ n < suc top * 2 ^ a) (sym e) l))

    go : (b : Bool) → leb k a ≡ b → m * 2 ^ k ≤ top * 2 ^ a
    go true e = mul-le-mul h (pow_mono (leb→le k a (subst T (sym e) tt)))
    go false e = rest (k - a) (whole (nleb→lt k a (subst (λ (c : Bool). T (not c)) (sym e) tt)))
      where
        whole : a < k → (k - a) + a ≡ k
        whole p = omega arith

-- ---- the greatest finite f64
greatest : Float
greatest = fin false 9007199254740991 (pos 971)

-- its digits, all ones, times 2^971
overflow-is : overflow_merit ≡ greatest
unfolding overflow_merit of_bits greatest
overflow-is = refl

second-and-last : (a b c d : Bool) → T (a && b && c && d) → T b × T d
second-and-last false b c d t = absurd t
second-and-last true false c d t = absurd t
second-and-last true true false d t = absurd t
second-and-last true true true false t = absurd t
second-and-last true true true true t = (tt, tt)

magnitude-last : (m : ℕ) (e : ℤ) → T (fits binary64 (fin false m e)) → m * up e ≤ 9007199254740991 * 2 ^ 971 * down e
unfolding fits
magnitude-last zero e h = nought (up e) (9007199254740991 * 2 ^ 971 * down e)
  where
    nought : (a b : ℕ) → 0 * a ≤ b
    nought a b = omega arith
magnitude-last (suc m) e h =
    let parts = second-and-last (eqb (suc m % 2) 1) (ltb (suc m) (2 ^ 53)) (leb (down e) (2 ^ 1074)) (ltb (suc m * up e) (2 ^ 1024 * down e)) h in
    go e (digits (suc m) (ltb→lt (suc m) (2 ^ 53) parts.0)) (ltb→lt (suc m * up e) (2 ^ 1024 * down e) parts.1)
  where
    digits : (n : ℕ) → n < 9007199254740992 → n ≤ 9007199254740991
    digits n p = omega arith

    small : (n top p q : ℕ) → n ≤ top → 0 < p → 0 < q → n * 1 ≤ top * p * q
    small n top p q h u v = le_trans (subst (λ (k : ℕ). k ≤ top) (one n) h) (le_trans (le-mul_of_pos_right top u) (le-mul_of_pos_right (top * p) v))
      where
        one : (k : ℕ) → k ≡ k * 1
        one k = omega arith

    go : (e : ℤ) → suc m ≤ 9007199254740991 → suc m * up e < 2 ^ 1024 * down e → suc m * up e ≤ 9007199254740991 * 2 ^ 971 * down e
    go (pos k) u v = at_most 9007199254740991 (suc m) 971 k u v
    go (negsuc k) u v = small (suc m) 9007199254740991 (2 ^ 971) (2 ^ suc k) u (pow_pos 971) (pow_pos (suc k))

under-greatest : (s : Bool) (m : ℕ) (e : ℤ) → T (fits binary64 (fin s m e)) → Under (fin s m e) greatest
unfolding fits greatest
under-greatest true m e h = nothing (9007199254740991 * 2 ^ 971 * down e) (m * up e * 1) (down e)
  where
    nothing : (a b q : ℕ) → 0 * 1 + 0 * q ≤ a + b
    nothing a b q = omega arith
under-greatest false m e h = padded (m * up e) (9007199254740991 * 2 ^ 971 * down e) (down e) (magnitude-last m e h)
  where
    padded : (a b q : ℕ) → a ≤ b → a * 1 + 0 * q ≤ b + 0 * 1
    padded a b q p = omega arith

-- "an overflowed total counts as the greatest finite f64"
pub overflow-last : (x : Float) → T (fits binary64 x) → Finite x → T (le x overflow_merit)
unfolding greatest
overflow-last nan h f = absurd f
overflow-last (inf s) h f = absurd f
overflow-last (fin s m e) h f = subst (λ (y : Float). T (le (fin s m e) y)) (sym overflow-is) (under→le (fin s m e) greatest tt tt (under-greatest s m e h))

-- so it is lower than none
pub overflow-never-lower : (x : Float) → T (fits binary64 x) → Finite x → lt overflow_merit x ≡ false
overflow-never-lower x h f = go (lt overflow_merit x) refl
  where
    go : (b : Bool) → lt overflow_merit x ≡ b → b ≡ false
    go true e = absurd (lt_not_le overflow_merit x (subst T (sym e) tt) (overflow-last x h f))
    go false e = refl

-- ---- every merit is an f64
counted-fits : (x : Float) → T (fits binary64 x) → T (fits binary64 (counted_total x))
unfolding counted_total overflow_merit of_bits fits
counted-fits x h = cond-fits binary64 (finite_of x) x _ h tt

module _ (surface : ℕ → OpticalSurface) (index : ℕ → ℕ → Float) (pupil : Float) (count : ℕ) (f : MeritFunction) where
  sum_fits : (n : ℕ) → T (fits binary64 (total surface index pupil count f n))
  unfolding total fits of_bits
  sum_fits zero = tt
  sum_fits (suc n) = add-fits binary64 _ _

  pub total-fits : T (fits binary64 (evaluation_of surface index pupil count f).total_merit)
  total-fits = counted-fits _ (sum_fits f.operand_count)

  -- a total that is not finite counts as that
  pub overflow-counts : finite_of (total surface index pupil count f f.operand_count) ≡ false
      → (evaluation_of surface index pupil count f).total_merit ≡ overflow_merit
  unfolding counted_total
  overflow-counts e = ap (λ (b : Bool). cond b (total surface index pupil count f f.operand_count) overflow_merit) e
