-- The square root of `floats` is the nearest `f64`: `nearest`. Assumes nothing.
use Rattle.std.specs.Prelude.{◌≡◌, refl, ℕ, zero, suc, ◌+◌, ◌-◌, ◌*◌, ◌/◌, ◌%◌, ◌^◌, ◌≤◌, ◌<◌, Bool, true, false, not, ℤ, T, ltb, Float}
use Rattle.std.proofs.Common.{sym, ap, ◌∙◌, subst, le_trans, le_of_eq, lt_of_lt_of_le, lt_irrefl, zero-lt-suc, zero-mul, mul-pos, mul_assoc, mul_comm}
use Rattle.std.proofs.Common.{mul_right_comm, mul-le-mul, mul-le-mul_right, lt_of_mul-lt-mul_right, mul-lt-mul_of_pos_right, arith, true≢false, ltb→lt, lt→ltb}
use Rattle.std.proofs.Common.{nltb→le, pow-add, pow_pos, shl_lt}
use Rattle.std.specs.Float.{nan, inf, fin, binary64}
use Rattle.std.specs.Float.Ieee.{up, down, size, odd, lt, fits}
use Rattle.std.specs.Float.Ieee.Digits.{size-lt, size_reaches, size-le}
use Rattle.std.specs.Float.Ieee.Fits.{down_pos}
use Rattle.std.specs.Float.Ieee.Exact.{HasValue, odd_sign}
use Rattle.std.specs.Float.Ieee.Positive.{num, den, positive, den_pos, value→cross}
use Rattle.floats.specs.Sqrt.{nearest_root, root_at, sqrt_of}
use Rattle.floats.specs.Steps.{Nears}
use Rattle.floats.proofs.RootLaws.{nearest-law, nears-most, nears-least}
use Rattle.floats.proofs.Patterns.{made-fits, root-at, spread, place, held, units, counted, lead}
use Rattle.floats.proofs.SqrtCases.{sqrt-finite}
use Rattle.floatlaws.specs.Nearest.{Nearest, unsigned}
use Rattle.floatlaws.proofs.NearestUnits.{above-units, below-units, to-above, to_below}

-- the order of two values is that of their units
lt-units : (a b : Float) (r u l : ℕ) → 0 < l → HasValue a false r l → HasValue b false u l → T (lt a b) → r < u
unfolding lt
lt-units nan b r u l lp p q h = absurd p
lt-units (inf s) b r u l lp p q h = absurd p
lt-units (fin true m e) b r u l lp p q h = absurd (true≢false p.0)
lt-units (fin false m e) nan r u l lp p q h = absurd q
lt-units (fin false m e) (inf t) r u l lp p q h = absurd q
lt-units (fin false m e) (fin true n d) r u l lp p q h = absurd (true≢false q.0)
lt-units (fin false m e) (fin false n d) r u l lp p q h =
    let c : m * up e * down d * l < n * up d * down e * l = mul-lt-mul_of_pos_right (ltb→lt (m * up e * down d) (n * up d * down e) h) lp in
    let a : m * up e * down d * l ≡ r * (down e * down d) =
    mul_right_comm (m * up e) (down d) l ∙ ap (λ (x : ℕ). x * down d) p.1 ∙ mul_assoc r (down e) (down d) in
    let b : n * up d * down e * l ≡ u * (down e * down d) =
    mul_right_comm (n * up d) (down e) l ∙ ap (λ (x : ℕ). x * down e) q.1 ∙ mul_assoc u (down d) (down e)
    ∙ ap (λ (x : ℕ). u * x) (mul_comm (down d) (down e)) in
    lt_of_mul-lt-mul_right (down e * down d) (subst (λ (x : ℕ). x < u * (down e * down d)) a (subst (λ (x : ℕ). m * up e * down d * l < x) b c))

-- a value of some units is above zero
value-positive : (x : Float) (a c : ℕ) → HasValue x false a c → 0 < a → T (positive x)
value-positive nan a c p h = absurd p
value-positive (inf s) a c p h = absurd p
value-positive (fin true m e) a c p h = absurd (true≢false p.0)
value-positive (fin false zero e) a c p h =
    absurd (lt_irrefl 0 (subst (λ (n : ℕ). 0 < n) (sym p.1 ∙ ap (λ (n : ℕ). n * c) (zero-mul (up e)) ∙ zero-mul c) (mul-pos h (down_pos e))))
value-positive (fin false (suc m) e) a c p h = lt→ltb 0 (suc m) (zero-lt-suc m)

-- ---- a value that fits, in units
record Spaced (y : Float) : Type 0 where
  p : ℕ
  i : ℕ
  short : p < 2 ^ 53
  value : HasValue y false (p * 2 ^ i) (2 ^ 1074)

spaced : (y : Float) → T (fits binary64 y) → T (unsigned y) → Spaced y
spaced nan f s = absurd s
spaced (inf t) f s = absurd s
spaced (fin true m e) f s = absurd s
spaced (fin false zero e) f s = record {
  p = 0;
  i = 0;
  short = pow_pos 53;
  value = (refl, ap (λ (x : ℕ). x * 2 ^ 1074) (zero-mul (up e)) ∙ sym (zero-mul (down e)));
}
spaced (fin false (suc m) e) f s =
    let h = held false m e f in
    let p = place e h.deep in
    record { p = suc m; i = p.i; short = h.short; value = (refl, p.is (suc m)) }

-- ---- x in units of 2 ^ -2148, as a number of 53 digits and a shift
record Scale (n : ℕ) : Type 0 where
  d : ℕ
  j : ℕ
  lo : 2 ^ 52 ≤ d
  hi : d < 2 ^ 53
  far : 52 ≤ j
  near : j < 3120
  is : d * 2 ^ j ≡ n * 2 ^ 1074

scale-low : (n : ℕ) → 0 < n → n < 2 ^ 52 → Scale n
scale-low n p h =
    let z : ℕ = size n in
    let most : z ≤ 52 = size-le n 52 h in
    let some : 0 < z = positive-size z (size-lt n) in
    let under : z - 1 < z = omega arith in
    let a : z - 1 + (53 - z) ≡ 52 = omega arith in
    let b : z + (53 - z) ≡ 53 = omega arith in
    let c : 53 - z + (1021 + z) ≡ 1074 = omega arith in
    record {
      d = n * 2 ^ (53 - z);
      j = 1021 + z;
      lo = le_trans (le_of_eq (ap (λ (x : ℕ). 2 ^ x) (sym a) ∙ pow-add 2 (z - 1) (53 - z))) (mul-le-mul_right (2 ^ (53 - z)) (size_reaches n (z - 1) under));
      hi = lt_of_lt_of_le (shl_lt z (53 - z) (size-lt n)) (le_of_eq (ap (λ (x : ℕ). 2 ^ x) b));
      far = omega arith;
      near = omega arith;
      is = mul_assoc n (2 ^ (53 - z)) (2 ^ (1021 + z)) ∙ ap (λ (x : ℕ). n * x) (sym (pow-add 2 (53 - z) (1021 + z)) ∙ ap (λ (x : ℕ). 2 ^ x) c);
    }
  where
    positive-size : (z : ℕ) → n < 2 ^ z → 0 < z
    positive-size zero l = omega arith
    positive-size (suc z) l = omega arith

module _ (m : ℕ) (e : ℤ) (f : T (fits binary64 (fin false (suc m) e))) where
  scale : Scale (units m e f).n
  scale = go (ltb (units m e f).n (2 ^ 52)) (ltb→lt (units m e f).n (2 ^ 52)) (nltb→le (units m e f).n (2 ^ 52))
    where
      go : (b : Bool) → (T b → (units m e f).n < 2 ^ 52) → (T (not b) → 2 ^ 52 ≤ (units m e f).n) → Scale (units m e f).n
      go true l g = scale-low (units m e f).n (units m e f).some (l tt)
      go false l g =
          let r = lead m e f (g tt) in
          record {
            d = r.d;
            j = r.k + 1074;
            lo = r.lo;
            hi = r.hi;
            far = omega arith;
            near = omega (arith, r.few);
            is = ap (λ (x : ℕ). r.d * x) (pow-add 2 r.k 1074) ∙ sym (mul_assoc r.d (2 ^ r.k) (2 ^ 1074)) ∙ ap (λ (x : ℕ). x * 2 ^ 1074) r.is;
          }

  -- x is w * 2 ^ (2 k) of these units, for a w of 105 or 106 digits
  pub record Rooted : Type 0 where
    pub w : ℕ
    pub k : ℕ
    pub big : 2 ^ 104 ≤ w
    pub small : w < 2 ^ 106
    pub few : k ≤ 2000
    pub whole : (units m e f).n * 2 ^ 1074 ≡ w * (2 ^ k * 2 ^ k)
    pub same : sqrt_of (fin false (suc m) e) ≡ odd 54 false (nearest_root w) k 1074

  pub rooted : Rooted
  rooted =
      let s = scale in
      let k : ℕ = s.j / 2 - 26 in
      let parity : s.j % 2 < 2 = omega arith in
      let twice : 2 * k ≡ k + k = omega arith in
      record {
        w = s.d * 2 ^ (s.j % 2) * 2 ^ 52;
        k = k;
        big = wide s.d (s.j % 2) s.lo;
        small = narrow s.d (s.j % 2) parity s.hi;
        few = omega (arith, s.near);
        whole = sym s.is ∙ spread s.d s.j s.lo s.hi s.far ∙ ap (λ (x : ℕ). s.d * 2 ^ (s.j % 2) * 2 ^ 52 * x) (ap (λ (x : ℕ). 2 ^ x) twice ∙ pow-add 2 k k);
        same = sqrt-finite m e ∙ ap (λ (x : ℕ). root_at (x * 2 ^ 1074)) (counted m e f) ∙ ap root_at (sym s.is) ∙ root-at s.d s.j s.lo s.hi s.far;
      }
    where
      wide : (d t : ℕ) → 2 ^ 52 ≤ d → 2 ^ 104 ≤ d * 2 ^ t * 2 ^ 52
      wide d t h = let a : 2 ^ 52 * 1 ≤ d * 2 ^ t = mul-le-mul h (pow_pos t) in omega arith

      narrow : (d t : ℕ) → t < 2 → d < 2 ^ 53 → d * 2 ^ t * 2 ^ 52 < 2 ^ 106
      narrow d zero l h = omega arith
      narrow d (suc zero) l h = omega arith
      narrow d (suc (suc t)) l h = absurd (no t l)
        where
          no : (t : ℕ) → suc (suc t) < 2 → ⊥
          no t l = omega arith

  law : Nearest (fin false (suc m) e) (sqrt_of (fin false (suc m) e))
  law =
      let n : ℕ = (units m e f).n in
      let s = rooted in
      let w : ℕ = s.w in
      let k : ℕ = s.k in
      let big : 2 ^ 104 ≤ w = s.big in
      let small : w < 2 ^ 106 = s.small in
      let few : k ≤ 2000 = s.few in
      let q : ℕ = nearest_root w in
      let r : Float = odd 54 false q k 1074 in
      let near : Nears w q = nearest-law w (omega arith) small in
      let ex : suc m * up e * (2 ^ 1074 * 2 ^ 1074) ≡ w * (2 ^ k * 2 ^ k) * down e =
      sym (mul_assoc (suc m * up e) (2 ^ 1074) (2 ^ 1074)) ∙ ap (λ (x : ℕ). x * 2 ^ 1074) (units m e f).value ∙ mul_right_comm n (down e) (2 ^ 1074)
      ∙ ap (λ (x : ℕ). x * down e) s.whole in
      let val : HasValue r false (q * 2 ^ k) (2 ^ 1074) = odd_sign 54 false q k 1074 in
      subst (λ (z : Float). Nearest (fin false (suc m) e) z) (sym s.same)
      (record {
        fitting = made-fits q k (nears-least w q near big) (nears-most w q near small) few;
        above_zero = value-positive r (q * 2 ^ k) (2 ^ 1074) val (mul-pos (lt_of_lt_of_le (pow_pos 52) (nears-least w q near big)) (pow_pos k));
        above = λ y fy uy h.
            let y' = spaced y fy uy in
            to-above (suc m * up e) (down e) (num r) (den r) (num y) (den y) (w * (2 ^ k * 2 ^ k)) (q * 2 ^ k) (y'.p * 2 ^ y'.i) (2 ^ 1074) (pow_pos 1074)
            (down_pos e) (den_pos r) (den_pos y) ex
            (value→cross r (q * 2 ^ k) (2 ^ 1074) val) (value→cross y (y'.p * 2 ^ y'.i) (2 ^ 1074) y'.value)
            (above-units w q k y'.p y'.i near big y'.short
            (lt-units r y (q * 2 ^ k) (y'.p * 2 ^ y'.i) (2 ^ 1074) (pow_pos 1074) val y'.value h));
        below = λ y fy uy h.
            let y' = spaced y fy uy in
            to_below (suc m * up e) (down e) (num r) (den r) (num y) (den y) (w * (2 ^ k * 2 ^ k)) (q * 2 ^ k) (y'.p * 2 ^ y'.i) (2 ^ 1074) (pow_pos 1074)
            (down_pos e) (den_pos r) (den_pos y) ex
            (value→cross r (q * 2 ^ k) (2 ^ 1074) val) (value→cross y (y'.p * 2 ^ y'.i) (2 ^ 1074) y'.value)
            (below-units w q k y'.p y'.i near big y'.short
            (lt-units y r (y'.p * 2 ^ y'.i) (q * 2 ^ k) (2 ^ 1074) (pow_pos 1074) y'.value val h));
      })

-- no `f64` is nearer to the root of x than `sqrt_of x`
pub nearest : (x : Float) → T (fits binary64 x) → T (positive x) → Nearest x (sqrt_of x)
nearest nan f p = absurd p
nearest (inf s) f p = absurd p
nearest (fin true m e) f p = absurd p
nearest (fin false zero e) f p = absurd p
nearest (fin false (suc m) e) f p = law m e f
