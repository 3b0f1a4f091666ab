-- What the tests that the code makes say of the functions of `Basic.antt`. Assumes nothing.
use Rattle.std.specs.Prelude.{◌≡◌, refl, ℕ, suc, ◌*◌, ◌<◌, Bool, true, false, not, ◌&&◌, ◌||◌, ℤ, pos, T, ltb, eqb, Float}
use Rattle.std.proofs.Common.{sym, ap, ◌∙◌, mul-pos, zero-lt-suc, arith, true≢false, ltb→lt, lt→ltb, eqb→eq}
use Rattle.std.specs.Bool.{beq}
use Rattle.std.proofs.lemmas.Bool.{false≢true}
use Rattle.std.proofs.Math.Dec.{eqb_refl}
use Rattle.std.specs.Float.{nan, inf, fin}
use Rattle.std.specs.Float.Ieee.{up, down, lt, eq, ne, is_nan}
use Rattle.std.specs.Float.Ieee.Fits.{up_pos, and_l, eq→eqb}
use Rattle.std.specs.Float.Ieee.Bits.{is_true}
use Rattle.floats.specs.Basic.{finite_of}

pub is-so : (b : Bool) → b ≡ true → T b
is-so true e = tt
is-so false e = absurd (false≢true e)

none_below : (a d : ℕ) → a < 0 * d → ⊥
none_below a d h = omega arith

pub not-below : (m : ℕ) (e : ℤ) → lt (fin false m e) (fin false 0 (pos 0)) ≡ true → ⊥
unfolding lt
not-below m e h = none_below (m * up e * 1) (down e) (ltb→lt (m * up e * 1) (0 * down e) (is-so (ltb (m * up e * 1) (0 * down e)) h))

none : (a d : ℕ) → 0 < a → a * 1 ≡ 0 * d → ⊥
none a d p h = omega arith

-- only a zero equals zero, and a negative number other than zero is below it
pub not-zero : (s : Bool) (m : ℕ) (e : ℤ) → eq (fin s (suc m) e) (fin false 0 (pos 0)) ≡ true → ⊥
unfolding eq
not-zero s m e h =
    let A = eqb (suc m * up e * 1) (0 * down e) in
    let B = beq s false || eqb (suc m * up e * 1) 0 in
    none (suc m * up e) (down e) (mul-pos (zero-lt-suc m) (up_pos e)) (eqb→eq (suc m * up e * 1) (0 * down e) (and_l A B (is-so (A && B) h)))

nothing : (a d : ℕ) → 0 * a * 1 ≡ 0 * d
nothing a d = omega arith

nothing_is : (a : ℕ) → 0 * a * 1 ≡ 0
nothing_is a = omega arith

-- a zero equals zero
pub zero_is : (s : Bool) (e : ℤ) → eq (fin s 0 e) (fin false 0 (pos 0)) ≡ true
unfolding eq
zero_is s e =
    ap (λ (b : Bool). b && (beq s false || eqb (0 * up e * 1) 0)) (is_true (eqb (0 * up e * 1) (0 * down e)) (eq→eqb (nothing (up e) (down e))))
    ∙ ap (λ (b : Bool). beq s false || b) (is_true (eqb (0 * up e * 1) 0) (eq→eqb (nothing_is (up e))))
    ∙ either (beq s false)
  where
    either : (b : Bool) → b || true ≡ true
    either true = refl
    either false = refl

above : (a d : ℕ) → 0 < a → 0 * d < a * 1
above a d h = omega arith

pub above_zero : (m : ℕ) (e : ℤ) → lt (fin false 0 (pos 0)) (fin false (suc m) e) ≡ true
unfolding lt
above_zero m e =
    is_true (ltb (0 * down e) (suc m * up e * 1)) (lt→ltb (0 * down e) (suc m * up e * 1) (above (suc m * up e) (down e) (mul-pos (zero-lt-suc m) (up_pos e))))

pub finite-yes : (x : Float) → lt x (inf false) ≡ true → lt (inf true) x ≡ finite_of x
unfolding lt finite_of
finite-yes nan h = refl
finite-yes (inf true) h = refl
finite-yes (inf false) h = absurd (false≢true h)
finite-yes (fin s m e) h = refl

pub finite-no : (x : Float) → lt x (inf false) ≡ false → lt x (inf false) ≡ finite_of x
unfolding lt finite_of
finite-no nan h = refl
finite-no (inf true) h = absurd (true≢false h)
finite-no (inf false) h = refl
finite-no (fin s m e) h = absurd (true≢false h)

pub differs : (x : Float) → is_nan x ≡ ne x x
unfolding is_nan ne
differs nan = refl
differs (inf true) = refl
differs (inf false) = refl
differs (fin s m e) = sym (same s (m * up e * down e))
  where
    same : (s : Bool) (a : ℕ) → not (eqb a a && (beq s s || eqb a 0)) ≡ false
    same true a = ap (λ (b : Bool). not (b && true)) (is_true (eqb a a) (eqb_refl a))
    same false a = ap (λ (b : Bool). not (b && true)) (is_true (eqb a a) (eqb_refl a))
