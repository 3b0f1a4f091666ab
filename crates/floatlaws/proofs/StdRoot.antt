-- std's square root is that of `floats`, at every `f64`: `std_root`. std rounds the root once, from 2271 binary places; `sqrt_of` takes the whole number
-- nearest to the root at the places that are kept. Assumes nothing.
use Rattle.std.specs.Prelude.{◌≡◌, refl, ℕ, zero, suc, ◌+◌, ◌-◌, ◌*◌, ◌/◌, ◌^◌, ◌≤◌, ◌<◌, Bool, true, false, cond, ℤ, pos, negsuc, T, ltb, Float}
use Rattle.std.proofs.Common.{sym, ap, ◌∙◌, subst, le_trans, le_of_eq, lt_of_lt_of_le, mul_assoc, mul_comm, mul_right_comm, mul-div_cancel}
use Rattle.std.proofs.Common.{arith, lt→ltb, eqb→eq, mul-pos, pow-add, pow_pos, pow_mono, shl_lt, le-div_iff_mul-le, div-lt_iff_lt-mul}
use Rattle.std.proofs.Math.Nat.{pow-succ'}
use Rattle.std.specs.Float.{nan, inf, fin, binary64, sqrt}
use Rattle.std.specs.Float.Ieee.{up, down, size, odd, units, round, root_twice, fits}
use Rattle.std.specs.Float.Ieee.Bits.{is_true}
use Rattle.std.specs.Float.Ieee.Fits.{core, down_pos, round_is}
use Rattle.std.specs.Float.Ieee.Nearest.{closest, closest_same, div_same}
use Rattle.floats.specs.Sqrt.{nearest_root, sqrt_of}
use Rattle.floats.specs.Steps.{Nears}
use Rattle.floats.proofs.RootLaws.{nearest-law, nears-unique, nears-most}
use Rattle.floats.proofs.Patterns.{size_exact, units as units_of}
use Rattle.floatlaws.proofs.NearestRoot.{rooted}
use Rattle.floatlaws.proofs.RootTwice.{Twice, twice, least, most, nears}

-- powers side by side
powers : (a b c d : ℕ) → a + b ≡ c + d → 2 ^ a * 2 ^ b ≡ 2 ^ c * 2 ^ d
powers a b c d e = sym (pow-add 2 a b) ∙ ap (λ (x : ℕ). 2 ^ x) e ∙ pow-add 2 c d

-- ---- t / 2 ^ 2272 rounded, where t has 53 digits above the last 1198 + k
module _ (t k : ℕ) (lo : 2 ^ 52 * 2 ^ (1198 + k) ≤ t) (hi : t < 2 ^ 53 * 2 ^ (1198 + k)) where
  digits : size (t / 2 ^ 1198) ≡ suc (52 + k)
  digits =
      let a : 52 + k + 1198 ≡ 52 + (1198 + k) = omega arith in
      let b : 53 + (1198 + k) ≡ suc (52 + k) + 1198 = omega arith in
      size_exact (52 + k) (t / 2 ^ 1198) ((le-div_iff_mul-le (pow_pos 1198)).1 (le_trans (le_of_eq (powers (52 + k) 1198 52 (1198 + k) a)) lo))
      ((div-lt_iff_lt-mul (pow_pos 1198)).1 (lt_of_lt_of_le hi (le_of_eq (powers 53 (1198 + k) (suc (52 + k)) 1198 b))))

  shifted : t * 2 ^ 1074 / 2 ^ 2272 ≡ t / 2 ^ 1198
  shifted =
      div_same (t * 2 ^ 1074) (2 ^ 2272) t (2 ^ 1198) (pow_pos 2272) (pow_pos 1198)
      (mul_assoc t (2 ^ 1074) (2 ^ 1198) ∙ ap (λ (x : ℕ). t * x) (sym (pow-add 2 1074 1198)))

  dropped : size (t * 2 ^ 1074 / 2 ^ 2272) - 53 ≡ k
  dropped = ap (λ (x : ℕ). size x - 53) shifted ∙ ap (λ (x : ℕ). x - 53) digits ∙ less k
    where
      less : (k : ℕ) → suc (52 + k) - 53 ≡ k
      less k = omega arith

  kept : closest (t * 2 ^ 1074) (2 ^ 2272 * 2 ^ k) ≡ closest t (2 ^ (1198 + k))
  kept =
      let e : 1074 + (1198 + k) ≡ 2272 + k = omega arith in
      closest_same (t * 2 ^ 1074) (2 ^ 2272 * 2 ^ k) t (2 ^ (1198 + k)) (mul-pos (pow_pos 2272) (pow_pos k)) (pow_pos (1198 + k))
      (mul_assoc t (2 ^ 1074) (2 ^ (1198 + k)) ∙ ap (λ (x : ℕ). t * x) (powers 1074 (1198 + k) 2272 k e))

  rounds : round binary64 false t (2 ^ 2272) ≡ units binary64 false (closest t (2 ^ (1198 + k))) k
  rounds =
      round_is binary64 false t (2 ^ 2272)
      ∙ ap (λ (x : ℕ). core binary64 false (t * 2 ^ 1074) (2 ^ 2272) x) dropped
      ∙ ap (λ (x : ℕ). units binary64 false x k) kept

-- ---- no root overflows
finite : (q k : ℕ) → q ≤ 2 ^ 53 → k ≤ 2000 → units binary64 false q k ≡ odd 54 false q k 1074
unfolding units
finite q k h few =
    let a : q < 2 ^ 54 = omega arith in
    let b : 54 + k ≤ 2098 = omega arith in
    ap (λ (x : Bool). cond x (odd 54 false q k 1074) (inf false)) (is_true (ltb (q * 2 ^ k) (2 ^ 2098)) (lt→ltb (q * 2 ^ k) (2 ^ 2098)
    (lt_of_lt_of_le (shl_lt 54 k a) (pow_mono b))))

-- t, which is the root of w in units of 4 * h, rounded
root-of : (w k h t : ℕ) → 4 * h ≡ 2 ^ (1198 + k) → 0 < h → Twice (4 * w * (h * h)) t → 2 ^ 104 ≤ w → w < 2 ^ 106 → k ≤ 2000
    → round binary64 false t (2 ^ 2272) ≡ odd 54 false (nearest_root w) k 1074
root-of w k h t unit some tw big small few =
    let lo : 2 ^ 52 * 2 ^ (1198 + k) ≤ t = subst (λ (x : ℕ). 2 ^ 52 * x ≤ t) unit (least w h t some tw big small) in
    let hi : t < 2 ^ 53 * 2 ^ (1198 + k) = subst (λ (x : ℕ). t < 2 ^ 53 * x) unit (most w h t some tw big small) in
    let near : Nears w (closest t (2 ^ (1198 + k))) = subst (λ (x : ℕ). Nears w (closest t x)) unit (nears w h t some tw big small) in
    let law : Nears w (nearest_root w) = nearest-law w (omega arith) small in
    rounds t k lo hi
    ∙ ap (λ (x : ℕ). units binary64 false x k) (nears-unique w (closest t (2 ^ (1198 + k))) (nearest_root w) near law)
    ∙ finite (nearest_root w) k (nears-most w (nearest_root w) law small) few

-- ---- a number above zero
module _ (m : ℕ) (e : ℤ) (f : T (fits binary64 (fin false (suc m) e))) where
  counts : suc m * up e * 2 ^ 4542 / down e ≡ (units_of m e f).n * 2 ^ 3468
  counts =
      let n : ℕ = (units_of m e f).n in
      ap (λ (x : ℕ). x / down e)
      (ap (λ (x : ℕ). suc m * up e * x) (pow-add 2 1074 3468) ∙ sym (mul_assoc (suc m * up e) (2 ^ 1074) (2 ^ 3468))
      ∙ ap (λ (x : ℕ). x * 2 ^ 3468) (units_of m e f).value ∙ mul_right_comm n (down e) (2 ^ 3468))
      ∙ mul-div_cancel (n * 2 ^ 3468) (down_pos e)

  spread : (w k : ℕ) → (units_of m e f).n * 2 ^ 1074 ≡ w * (2 ^ k * 2 ^ k)
      → (units_of m e f).n * 2 ^ 3468 ≡ 4 * w * (2 ^ (1196 + k) * 2 ^ (1196 + k))
  spread w k whole =
      let n : ℕ = (units_of m e f).n in
      let a : ℕ = 1196 + k in
      let d : k + k + 2394 ≡ 2 + (a + a) = omega arith in
      let places : 2 ^ k * 2 ^ k * 2 ^ 2394 ≡ 4 * (2 ^ a * 2 ^ a) =
      ap (λ (x : ℕ). x * 2 ^ 2394) (sym (pow-add 2 k k)) ∙ powers (k + k) 2394 2 (a + a) d ∙ ap (λ (x : ℕ). 4 * x) (pow-add 2 a a) in
      ap (λ (x : ℕ). n * x) (pow-add 2 1074 2394) ∙ sym (mul_assoc n (2 ^ 1074) (2 ^ 2394)) ∙ ap (λ (x : ℕ). x * 2 ^ 2394) whole
      ∙ mul_assoc w (2 ^ k * 2 ^ k) (2 ^ 2394) ∙ ap (λ (x : ℕ). w * x) places
      ∙ sym (mul_assoc w 4 (2 ^ a * 2 ^ a)) ∙ ap (λ (x : ℕ). x * (2 ^ a * 2 ^ a)) (mul_comm w 4)

  above-zero : sqrt binary64 (fin false (suc m) e) ≡ sqrt_of (fin false (suc m) e)
  unfolding sqrt
  above-zero =
      let r = rooted m e f in
      let h : ℕ = 2 ^ (1196 + r.k) in
      let n : ℕ = 4 * r.w * (h * h) in
      let places : 2 + (1196 + r.k) ≡ 1198 + r.k = omega arith in
      ap (λ (x : ℕ). round binary64 false (root_twice x) (2 ^ 2272)) (counts ∙ spread r.w r.k r.whole)
      ∙ root-of r.w r.k h (root_twice n) (sym (pow-add 2 2 (1196 + r.k)) ∙ ap (λ (x : ℕ). 2 ^ x) places) (pow_pos (1196 + r.k)) (twice n) r.big r.small r.few
      ∙ sym r.same

-- a zero is written in one way
zero-is : (e : ℤ) → up e * down e ≡ 1 → pos 0 ≡ e
zero-is (pos zero) h = refl
zero-is (pos (suc k)) h = absurd (no (2 ^ k) (sym (ap (λ (x : ℕ). x * 1) (pow-succ' 2 k)) ∙ h))
  where
    no : (x : ℕ) → 2 * x * 1 ≡ 1 → ⊥
    no x h = omega arith
zero-is (negsuc k) h = absurd (no (2 ^ k) (sym (ap (λ (x : ℕ). 1 * x) (pow-succ' 2 k)) ∙ h))
  where
    no : (x : ℕ) → 1 * (2 * x) ≡ 1 → ⊥
    no x h = omega arith

pub std_root : (x : Float) → T (fits binary64 x) → sqrt binary64 x ≡ sqrt_of x
unfolding sqrt sqrt_of fits
std_root nan f = refl
std_root (inf true) f = refl
std_root (inf false) f = refl
std_root (fin s zero e) f = ap (λ (d : ℤ). fin s 0 d) (zero-is e (eqb→eq (up e * down e) 1 f))
std_root (fin true (suc m) e) f = refl
std_root (fin false (suc m) e) f = above-zero m e f
