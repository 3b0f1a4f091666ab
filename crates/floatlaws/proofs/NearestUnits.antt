-- The nearest root over whole numbers: what the whole number nearest to a root says of multiples of powers of two, and the step from these to fractions.
-- Assumes nothing.
use Rattle.std.specs.Prelude.{◌≡◌, ◌⊎◌, ℕ, ◌+◌, ◌-◌, ◌*◌, ◌^◌, ◌≤◌, ◌<◌, Bool, true, false, not, T, ltb, leb}
use Rattle.std.proofs.Common.{sym, ap, ◌∙◌, subst, inl, inr, le_trans, le_of_eq, le_of_lt, lt_of_lt_of_le, lt_of_le_of_lt, lt_irrefl, eq-or-lt_of_le, add-mul}
use Rattle.std.proofs.Common.{mul-pos, mul_assoc, mul_comm, mul_right_comm, mul-le-mul, mul-le-mul_right, lt_of_mul-lt-mul_right, mul-lt-mul_of_pos_right}
use Rattle.std.proofs.Common.{arith, ltb→lt, nltb→le, leb→le, pow-add, pow_pos, pow_mono, shl_lt}
use Rattle.std.proofs.Math.Nat.{mul-mul-mul_comm}
use Rattle.std.proofs.Math.Dec.{nleb→lt}
use Rattle.std.specs.Float.Ieee.Digits.{back}
use Rattle.floats.specs.Steps.{Nears}
use Rattle.floats.proofs.RootLaws.{sq-suc, sq-twice, step-le, nears-least}

-- ---- in units of 2 ^ -1074 for r and y, and of 2 ^ -2148 for x: multiples of 2 ^ k and a number of 53 digits at most, shifted
grid : (q k p i : ℕ) → 2 ^ 52 ≤ q → p < 2 ^ 53 → (p * 2 ^ i ≤ q * 2 ^ k) ⊎ ((q + 1) * 2 ^ k ≤ p * 2 ^ i)
grid q k p i h l = go (leb k i) (leb→le k i) (nleb→lt k i)
  where
    multiple : (t : ℕ) → t * 2 ^ k ≡ p * 2 ^ i → (b : Bool) → (T b → q < t) → (T (not b) → t ≤ q) → (p * 2 ^ i ≤ q * 2 ^ k) ⊎ ((q + 1) * 2 ^ k ≤ p * 2 ^ i)
    multiple t e true f g =
        let a : q < t = f tt in
        let b : q + 1 ≤ t = omega arith in
        inr (le_trans (mul-le-mul_right (2 ^ k) b) (le_of_eq e))
    multiple t e false f g = inl (le_trans (le_of_eq (sym e)) (mul-le-mul_right (2 ^ k) (g tt)))

    go : (b : Bool) → (T b → k ≤ i) → (T (not b) → i < k) → (p * 2 ^ i ≤ q * 2 ^ k) ⊎ ((q + 1) * 2 ^ k ≤ p * 2 ^ i)
    go true f g =
        let t : ℕ = p * 2 ^ (i - k) in
        let e : t * 2 ^ k ≡ p * 2 ^ i =
        mul_assoc p (2 ^ (i - k)) (2 ^ k) ∙ ap (λ (x : ℕ). p * x) (sym (pow-add 2 (i - k) k) ∙ ap (λ (x : ℕ). 2 ^ x) (back i k (f tt))) in
        multiple t e (ltb q t) (ltb→lt q t) (nltb→le q t)
    go false f g =
        let a : i < k = g tt in
        let b : 53 + i ≤ 52 + k = omega arith in
        inl (le_trans (le_of_lt (shl_lt 53 i l)) (le_trans (pow_mono b) (le_trans (le_of_eq (pow-add 2 52 k)) (mul-le-mul_right (2 ^ k) h))))

scaled-sq : (a t : ℕ) → a * t * (a * t) ≡ a * a * (t * t)
scaled-sq a t = mul-mul-mul_comm a t a t

module _ (w q k p i : ℕ) (near : Nears w q) (big : 2 ^ 104 ≤ w) (short : p < 2 ^ 53) where
  least : 2 ^ 52 ≤ q
  least = nears-least w q near big

  pub above-units : q * 2 ^ k < p * 2 ^ i → 4 * (w * (2 ^ k * 2 ^ k)) < (q * 2 ^ k + p * 2 ^ i) * (q * 2 ^ k + p * 2 ^ i)
  above-units h = elim (grid q k p i least short) [
    | inl g ↦ absurd (lt_irrefl (q * 2 ^ k) (lt_of_lt_of_le h g))
    | inr g ↦
        let t : ℕ = 2 ^ k in
        let s : (q + 1) * t ≡ q * t + 1 * t = add-mul q 1 t in
        let d : (2 * q + 1) * t ≡ 2 * q * t + 1 * t = add-mul (2 * q) 1 t in
        let d' : 2 * q * t ≡ 2 * (q * t) = mul_assoc 2 q t in
        let l : (2 * q + 1) * t ≤ q * t + p * 2 ^ i = omega arith in
        let c = sq-suc (2 * q) in
        let c' = sq-twice q in
        let m : 4 * w < (2 * q + 1) * (2 * q + 1) = omega (arith, near.under) in
        lt_of_le_of_lt (le_of_eq (sym (mul_assoc 4 w (t * t))))
        (lt_of_lt_of_le (mul-lt-mul_of_pos_right m (mul-pos (pow_pos k) (pow_pos k))) (le_trans (le_of_eq (sym (scaled-sq (2 * q + 1) t))) (mul-le-mul l l)))
  ]

  pub below-units : p * 2 ^ i < q * 2 ^ k → (q * 2 ^ k + p * 2 ^ i) * (q * 2 ^ k + p * 2 ^ i) < 4 * (w * (2 ^ k * 2 ^ k))
  below-units h = elim (eq-or-lt_of_le least) [
    | inl e ↦
        let t : ℕ = 2 ^ k in
        let l : q * t + p * 2 ^ i < 2 * q * t = subst (λ (x : ℕ). q * t + p * 2 ^ i < x) (sym (mul_assoc 2 q t)) (twice (q * t) (p * 2 ^ i) h) in
        let c = sq-twice q in
        let c' : q * q ≡ 2 ^ 104 = ap (λ (x : ℕ). x * x) (sym e) in
        let m : 2 * q * (2 * q) ≤ 4 * w = omega arith in
        lt_of_lt_of_le (sq-lt l) (le_trans (le_of_eq (scaled-sq (2 * q) t)) (le_trans (mul-le-mul_right (t * t) m) (le_of_eq (mul_assoc 4 w (t * t)))))
    | inr g ↦ go (q - 1) (omega arith) (omega arith)
  ]
    where
      twice : (a b : ℕ) → b < a → a + b < 2 * a
      twice a b h = omega arith

      sq-lt : {a b : ℕ} → a < b → a * a < b * b
      sq-lt {a} {b} h = let s = step-le a b h in omega arith

      go : (z : ℕ) → q ≡ z + 1 → 2 ^ 52 ≤ z → (q * 2 ^ k + p * 2 ^ i) * (q * 2 ^ k + p * 2 ^ i) < 4 * (w * (2 ^ k * 2 ^ k))
      go z e l = elim (grid z k p i l short) [
        | inr g ↦ absurd (lt_irrefl (p * 2 ^ i) (lt_of_lt_of_le h (subst (λ (x : ℕ). x * 2 ^ k ≤ p * 2 ^ i) (sym e) g)))
        | inl g ↦
            let t : ℕ = 2 ^ k in
            let s : q * t ≡ z * t + 1 * t = ap (λ (x : ℕ). x * t) e ∙ add-mul z 1 t in
            let d : (2 * z + 1) * t ≡ 2 * z * t + 1 * t = add-mul (2 * z) 1 t in
            let d' : 2 * z * t ≡ 2 * (z * t) = mul_assoc 2 z t in
            let a : q * t + p * 2 ^ i ≤ (2 * z + 1) * t = omega arith in
            let c = sq-suc (2 * z) in
            let c' = sq-twice z in
            let f : q * q ≡ z * z + 2 * z + 1 = ap (λ (x : ℕ). x * x) e ∙ sq-suc z in
            let m : (2 * z + 1) * (2 * z + 1) < 4 * w = omega (arith, near.over) in
            lt_of_le_of_lt (le_trans (mul-le-mul a a) (le_of_eq (scaled-sq (2 * z + 1) t)))
            (lt_of_lt_of_le (mul-lt-mul_of_pos_right m (mul-pos (pow_pos k) (pow_pos k))) (le_of_eq (mul_assoc 4 w (t * t))))
      ]

-- ---- from units to fractions: l is 2 ^ 1074
module _ (X dx R dr Y dy n r u l : ℕ) (lp : 0 < l) (px : 0 < dx) (pr : 0 < dr) (py : 0 < dy) (ex : X * (l * l) ≡ n * dx) (er : R * l ≡ r * dr)
    (ey : Y * l ≡ u * dy) where
  sum_is : (R * dy + Y * dr) * l ≡ (r + u) * (dr * dy)
  sum_is =
      let a : (R * dy + Y * dr) * l ≡ R * dy * l + Y * dr * l = add-mul (R * dy) (Y * dr) l in
      let b : R * dy * l ≡ r * (dr * dy) = mul_right_comm R dy l ∙ ap (λ (x : ℕ). x * dy) er ∙ mul_assoc r dr dy in
      let c : Y * dr * l ≡ u * (dr * dy) = mul_right_comm Y dr l ∙ ap (λ (x : ℕ). x * dr) ey ∙ mul_assoc u dy dr ∙ ap (λ (x : ℕ). u * x) (mul_comm dy dr) in
      a ∙ ap (λ (x : ℕ). x + Y * dr * l) b ∙ ap (λ (x : ℕ). r * (dr * dy) + x) c ∙ sym (add-mul r u (dr * dy))

  left_is : 4 * X * (dr * dy * (dr * dy)) * (l * l) ≡ 4 * n * (dr * dy * (dr * dy) * dx)
  left_is =
      let p : ℕ = dr * dy * (dr * dy) in
      mul_right_comm (4 * X) p (l * l) ∙ ap (λ (x : ℕ). x * p) (mul_assoc 4 X (l * l) ∙ ap (λ (x : ℕ). 4 * x) ex ∙ sym (mul_assoc 4 n dx))
      ∙ mul_assoc (4 * n) dx p ∙ ap (λ (x : ℕ). 4 * n * x) (mul_comm dx p)

  right_is : (R * dy + Y * dr) * (R * dy + Y * dr) * dx * (l * l) ≡ (r + u) * (r + u) * (dr * dy * (dr * dy) * dx)
  right_is =
      let s : ℕ = R * dy + Y * dr in
      let p : ℕ = dr * dy in
      mul_right_comm (s * s) dx (l * l)
      ∙ ap (λ (x : ℕ). x * dx) (sym (mul-mul-mul_comm s l s l) ∙ ap (λ (x : ℕ). x * x) sum_is ∙ mul-mul-mul_comm (r + u) p (r + u) p)
      ∙ mul_assoc ((r + u) * (r + u)) (p * p) dx

  dens : 0 < dr * dy * (dr * dy) * dx
  dens = mul-pos (mul-pos (mul-pos pr py) (mul-pos pr py)) px

  pub to-above : 4 * n < (r + u) * (r + u) → 4 * X * (dr * dy * (dr * dy)) < (R * dy + Y * dr) * (R * dy + Y * dr) * dx
  to-above h = lt_of_mul-lt-mul_right (l * l) (lt_of_le_of_lt (le_of_eq left_is) (lt_of_lt_of_le (mul-lt-mul_of_pos_right h dens) (le_of_eq (sym right_is))))

  pub to_below : (r + u) * (r + u) < 4 * n → (R * dy + Y * dr) * (R * dy + Y * dr) * dx < 4 * X * (dr * dy * (dr * dy))
  to_below h = lt_of_mul-lt-mul_right (l * l) (lt_of_le_of_lt (le_of_eq right_is) (lt_of_lt_of_le (mul-lt-mul_of_pos_right h dens) (le_of_eq (sym left_is))))
