-- What callers of the functions on floats may use of them, beside the order's laws (`Order`, `Monotone`): they need not look into the definitions. Assumes
-- nothing.
use Rattle.std.specs.Prelude.{◌≡◌, refl, ℕ, zero, suc, ◌+◌, ◌*◌, ◌/◌, ◌^◌, ◌<◌, Bool, true, false, not, ◌&&◌, cond, ℤ, pos, T, ltb, eqb, Float}
use Rattle.std.proofs.Common.{sym, ap, ◌∙◌, subst, zero-lt-suc, mul_comm, mul_right_comm, mul-pos, zero-mul, arith, eqb→eq, ltb-true}
use Rattle.std.proofs.Math.Nat.{mul-div-mul_right}
use Rattle.std.proofs.lemmas.Bool.{false≢true}
use Rattle.std.specs.Float.{nan, inf, fin, Format}
use Rattle.std.specs.Float.Ieee.{lt, le, eq, is_nan, round, units, odd, size, prec, low, emax, div, up, down, unlike, of_bits}
use Rattle.std.specs.Float.Ieee.Fits.{round_is, up_pos, down_pos, and_l, and_r}
use Rattle.floats.specs.Basic.{magnitude, clamp_of, finite_of}
use Rattle.floats.specs.BasicLaws.{is-so, zero_is}
use Rattle.floats.specs.Constants.{zero64, one64}
use Rattle.floats.specs.Sqrt.{root_at, sqrt_of}
use Rattle.floatlaws.specs.Fractions.{Finite}
use Rattle.floatlaws.specs.Monotone.{no_zero}
use Rattle.floatlaws.specs.Order.{Number, le-numbers, le-self, not-lt→le}

-- ---- the test for finite numbers
pub finite-test : (x : Float) → T (finite_of x) → Finite x
unfolding finite_of
finite-test nan t = absurd t
finite-test (inf s) t = absurd t
finite-test (fin s m e) t = tt

pub test-finite : (x : Float) → Finite x → T (finite_of x)
unfolding finite_of
test-finite nan p = absurd p
test-finite (inf s) p = absurd p
test-finite (fin s m e) p = tt

pub finite_number : (x : Float) → Finite x → Number x
unfolding is_nan
finite_number nan p = absurd p
finite_number (inf s) p = absurd p
finite_number (fin s m e) p = tt

-- ---- the magnitude
pub magnitude-number : (x : Float) → is_nan (magnitude x) ≡ is_nan x
unfolding magnitude is_nan
magnitude-number nan = refl
magnitude-number (inf s) = refl
magnitude-number (fin s m e) = refl

-- ---- what clamp gives lies between its bounds, where they are not crossed and the number is no NaN
module _ (x lo hi : Float) (number : Number x) (order : T (le lo hi)) where
  low-number : Number lo
  low-number = (le-numbers lo hi order).0

  high-number : Number hi
  high-number = (le-numbers lo hi order).1

  pub clamp-above : T (le lo (clamp_of x lo hi))
  clamp-above = go (lt x lo) (lt hi x) (not-lt→le x lo number low-number)
    where
      go : (a b : Bool) → (T (not a) → T (le lo x)) → T (le lo (cond a lo (cond b hi x)))
      go true b h = le-self lo low-number
      go false true h = order
      go false false h = h tt

  pub clamp-below : T (le (clamp_of x lo hi) hi)
  clamp-below = go (lt x lo) (lt hi x) (not-lt→le hi x high-number number)
    where
      go : (a b : Bool) → (T (not b) → T (le x hi)) → T (le (cond a lo (cond b hi x)) hi)
      go true b h = order
      go false true h = le-self hi high-number
      go false false h = h tt

-- ---- what is rounded is a number, and so is the reciprocal of a finite number other than zero
cond-number : (b : Bool) (x y : Float) → Number x → Number y → Number (cond b x y)
cond-number true x y p q = p
cond-number false x y p q = q

odd_number : (d : ℕ) (s : Bool) (q k l : ℕ) → Number (odd d s q k l)
unfolding odd is_nan
odd_number d s zero k l = tt
odd_number d s (suc q) k l = tt

units_number : (f : Format) (s : Bool) (q k : ℕ) → Number (units f s q k)
unfolding units is_nan
units_number f s q k =
    cond-number (ltb (q * 2 ^ k) (2 ^ (low f + suc (emax f)))) (odd (suc (prec f)) s q k (low f)) (inf s) (odd_number (suc (prec f)) s q k (low f)) tt

pub round_number : (f : Format) (s : Bool) (a c : ℕ) → Number (round f s a c)
round_number f s a c = subst Number (sym (round_is f s a c)) (units_number f s _ _)

pub quotient-number : (f : Format) (x y : Float) → Finite x → Finite y → T (not (eq y (fin false 0 (pos 0)))) → Number (div f x y)
unfolding div
quotient-number f nan y p q n = absurd p
quotient-number f (inf s) y p q n = absurd p
quotient-number f (fin s m e) nan p q n = absurd q
quotient-number f (fin s m e) (inf t) p q n = absurd q
quotient-number f (fin s m e) (fin t zero d) p q n = absurd (subst (λ (b : Bool). T (not b)) (zero_is t d) n)
quotient-number f (fin s m e) (fin t (suc k) d) p q n =
    subst Number (sym (no_zero (suc k) _ _ (zero-lt-suc k))) (round_number f (unlike s t) (m * up e * down d) (suc k * up d * down e))

-- ---- equal numbers above zero have one root; +0.0 and -0.0 are equal, and each is its own
same-quotient : (a b c p q : ℕ) → 0 < p → 0 < q → a * q ≡ b * p → a * c / p ≡ b * c / q
same-quotient a b c p q hp hq e =
    sym (mul-div-mul_right (a * c) p hq)
    ∙ ap (λ (n : ℕ). n / (p * q)) (mul_right_comm a c q ∙ ap (λ (n : ℕ). n * c) e ∙ mul_right_comm b p c)
    ∙ ap (λ (n : ℕ). b * c * p / n) (mul_comm p q)
    ∙ mul-div-mul_right (b * c) q hp

none_above : (u d : ℕ) → 0 * d < 0 * u * 1 → ⊥
none_above u d h = omega arith

no-nought : {a : ℕ} → 0 < a → a ≡ 0 → ⊥
no-nought h e = omega arith

nothing : (u d : ℕ) → 0 * u * d ≡ 0
nothing u d = rw (zero-mul u, zero-mul d)

above : (m : ℕ) (u d : ℤ) → 0 < suc m * up u * down d
above m u d = mul-pos (mul-pos (zero-lt-suc m) (up_pos u)) (down_pos d)

level-same : (a b : ℕ) (t : Bool) → T (eqb a b && t) → a ≡ b
level-same a b t h = eqb→eq a b (and_l (eqb a b) t h)

pub root-same : (x y : Float) → eq x y ≡ true → lt zero64 x ≡ true → sqrt_of x ≡ sqrt_of y
unfolding eq lt of_bits sqrt_of
root-same nan y e p = absurd (false≢true e)
root-same (inf s) nan e p = absurd (false≢true e)
root-same (inf true) (inf t) e p = absurd (false≢true p)
root-same (inf false) (inf true) e p = absurd (false≢true e)
root-same (inf false) (inf false) e p = refl
root-same (inf s) (fin t n d) e p = absurd (false≢true e)
root-same (fin s m u) nan e p = absurd (false≢true e)
root-same (fin s m u) (inf t) e p = absurd (false≢true e)
root-same (fin true m u) (fin t n d) e p = absurd (false≢true p)
root-same (fin false zero u) (fin t n d) e p = absurd (none_above (up u) (down u) (ltb-true _ _ p))
root-same (fin false (suc m) u) (fin true n d) e p =
    absurd (no-nought (above m u d) (eqb→eq _ 0 (and_r (eqb (suc m * up u * down d) (n * up d * down u)) _ (is-so _ e))))
root-same (fin false (suc m) u) (fin false zero d) e p =
    absurd (no-nought (above m u d) (level-same (suc m * up u * down d) (0 * up d * down u) _ (is-so _ e) ∙ nothing (up d) (down u)))
root-same (fin false (suc m) u) (fin false (suc n) d) e p =
    ap (λ (k : ℕ). root_at (k * 2 ^ 1074)) (same-quotient (suc m * up u) (suc n * up d) (2 ^ 1074) (down u) (down d) (down_pos u) (down_pos d)
    (level-same (suc m * up u * down d) (suc n * up d * down u) _ (is-so _ e)))

-- the root of 1
pub root-one : sqrt_of one64 ≡ one64
unfolding sqrt_of odd size of_bits
root-one = refl
