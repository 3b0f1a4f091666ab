-- The bit pattern of an `f64` above zero, the number of units of 2 ^ -1074 that it stands for, and the root of such a number. Assumes nothing.
use Rattle.std.specs.Float.{inf}
use Rattle.std.specs.Float.{nan}
use Rattle.std.specs.Prelude.{◌≡◌, refl, Bool, true, not, ◌&&◌, cond, ℤ, pos, negsuc, T, ltb, leb, eqb, Float}
use Rattle.std.proofs.Common.{sym, ◌∙◌, subst, inl, inr, le_trans, le_of_eq, le_antisymm, lt_of_not-le, lt_of_lt_of_le, lt_of_le_of_lt, lt_irrefl}
use Rattle.std.proofs.Common.{eq-or-lt_of_le, zero-lt-suc, zero-add, mul-one, mul-pos, mul_assoc, mul_right_comm, mul-le-mul_right, mul-lt-mul_of_pos_right}
use Rattle.std.proofs.Common.{lt_of_mul-lt-mul_right, mul-div_cancel, le-div_iff_mul-le, div-one, pow-suc, true≢false, lt→ltb, ltb→lt, leb→le, nltb→le, pow-add}
use Rattle.std.proofs.Common.{pow_pos, pow_mono, shl_lt}
use Rattle.std.proofs.Math.Path.{ap}
use Prim.Native.Nat.{ℕ, zero, suc, ◌+◌, ◌-◌, ◌*◌, ◌/◌, ◌%◌, ◌^◌, ◌≤◌, ◌<◌}
use native.Mathlib.Omega.{arith}
use Rattle.std.proofs.Math.Bool.{false}
use Rattle.std.proofs.Math.Dec.{not_T}
use Rattle.std.proofs.Math.Pow.{pow-lt}
use Rattle.std.specs.Float.{fin, binary64}
use Rattle.std.specs.Float.Ieee.{up, down, size, odd, fits, of_bits, to_bits}
use Rattle.std.specs.Float.Ieee.Digits.{size-lt, size-le, size_reaches, back}
use Rattle.std.specs.Float.Ieee.Fits.{odd-fits, kept-lt, down_pos, and_l, and_r}
use Rattle.std.specs.Float.Ieee.Exact.{HasValue, odd_sign}
use Rattle.std.specs.Float.Ieee.Bits.{of_bits-to_bits, is_true, is_false}
use Rattle.floats.specs.Sqrt.{nearest_root, root_at}
use Rattle.floats.specs.Steps.{count}

-- ---- how many digits a number has
pow_lt_back : (i p : ℕ) → 2 ^ i < 2 ^ p → i < p
pow_lt_back i p h = lt_of_not-le (λ (g : p ≤ i). lt_irrefl (2 ^ i) (lt_of_lt_of_le h (pow_mono g)))

pow_le_back : (i p : ℕ) → 2 ^ i ≤ 2 ^ p → i ≤ p
pow_le_back i p h = past (lt_of_not-le (λ (g : suc p ≤ i). lt_irrefl (2 ^ p) (lt_of_lt_of_le (pow-lt g) h)))
  where
    past : i < suc p → i ≤ p
    past h = omega arith

pub size_exact : (a n : ℕ) → 2 ^ a ≤ n → n < 2 ^ suc a → size n ≡ suc a
size_exact a n lo hi = le_antisymm (size-le n (suc a) hi) (pow_lt_back a (size n) (lt_of_le_of_lt lo (size-lt n)))

size-shifted : (d k : ℕ) → 2 ^ 52 ≤ d → d < 2 ^ 53 → size (d * 2 ^ k) ≡ 53 + k
size-shifted d k lo hi =
    size_exact (52 + k) (d * 2 ^ k) (le_trans (le_of_eq (pow-add 2 52 k)) (mul-le-mul_right (2 ^ k) lo))
    (subst (λ (x : ℕ). d * 2 ^ k < 2 ^ x) (next k) (shl_lt 53 k hi)) ∙ sym (next k)
  where
    next : (k : ℕ) → 53 + k ≡ suc (52 + k)
    next k = omega arith

-- ---- the pattern of a number that is a units
bits_of : (v : Float) (a : ℕ) → HasValue v false a (2 ^ 1074) → to_bits binary64 v ≡ (size a - 53) * 2 ^ 52 + a / 2 ^ (size a - 53)
unfolding to_bits
bits_of (fin true m e) a h = absurd (true≢false h.0)
bits_of (fin false m e) a h =
    ap (λ (n : ℕ). 0 + (size n - 53) * 2 ^ 52 + n / 2 ^ (size n - 53)) (ap (λ (x : ℕ). x / down e) h.1 ∙ mul-div_cancel a (down_pos e))
    ∙ ap (λ (z : ℕ). z + a / 2 ^ (size a - 53)) (zero-add ((size a - 53) * 2 ^ 52))
bits_of nan a h = elim h [ ]
bits_of (inf _) a h = elim h [ ]

bits-normal : (v : Float) (d k : ℕ) → 2 ^ 52 ≤ d → d < 2 ^ 53 → HasValue v false (d * 2 ^ k) (2 ^ 1074) → to_bits binary64 v ≡ k * 2 ^ 52 + d
bits-normal v d k lo hi h =
    bits_of v (d * 2 ^ k) h
    ∙ ap (λ (z : ℕ). (z - 53) * 2 ^ 52 + d * 2 ^ k / 2 ^ (z - 53)) (size-shifted d k lo hi)
    ∙ ap (λ (z : ℕ). z * 2 ^ 52 + d * 2 ^ k / 2 ^ z) (less k)
    ∙ ap (λ (z : ℕ). k * 2 ^ 52 + z) (mul-div_cancel d (pow_pos k))
  where
    less : (k : ℕ) → 53 + k - 53 ≡ k
    less k = omega arith

-- ---- a pattern made of a number of 53 digits and a shift
module _ (q k : ℕ) (lo : 2 ^ 52 ≤ q) (hi : q ≤ 2 ^ 53) (small : k ≤ 2000) where
  pub made-fits : T (fits binary64 (odd 54 false q k 1074))
  made-fits =
      let a : q < 2 ^ 54 = omega arith in
      let b : 54 + k ≤ 2098 = omega arith in
      odd-fits binary64 54 false q k a hi (lt_of_lt_of_le (shl_lt 54 k a) (pow_mono b))

  made_bits : to_bits binary64 (odd 54 false q k 1074) ≡ k * 2 ^ 52 + q
  made_bits = elim (eq-or-lt_of_le hi) [
    | inr l ↦ bits-normal (odd 54 false q k 1074) q k lo l (odd_sign 54 false q k 1074)
    | inl e ↦
        let next : 53 + k ≡ 52 + suc k = omega arith in
        let shift : q * 2 ^ k ≡ 2 ^ 52 * 2 ^ suc k = ap (λ (x : ℕ). x * 2 ^ k) e ∙ sym (pow-add 2 53 k) ∙ ap (λ (x : ℕ). 2 ^ x) next ∙ pow-add 2 52 (suc k) in
        let carry : suc k * 2 ^ 52 + 2 ^ 52 ≡ k * 2 ^ 52 + q = omega arith in
        bits-normal (odd 54 false q k 1074) (2 ^ 52) (suc k) (omega arith) (omega arith)
        (subst (λ (a : ℕ). HasValue (odd 54 false q k 1074) false a (2 ^ 1074)) shift (odd_sign 54 false q k 1074))
        ∙ carry
  ]

  pub pattern-of : of_bits binary64 (k * 2 ^ 52 + q) ≡ odd 54 false q k 1074
  pattern-of = ap (of_bits binary64) (sym made_bits) ∙ of_bits-to_bits binary64 (odd 54 false q k 1074) made-fits

-- ---- the root of a number of 53 digits and a shift
four-pow : (k : ℕ) → 4 ^ k ≡ 2 ^ (2 * k)
four-pow zero = refl
four-pow (suc k) = pow-suc 4 k ∙ ap (λ (x : ℕ). x * 4) (four-pow k) ∙ sym (pow-add 2 (2 * k) 2) ∙ ap (λ (x : ℕ). 2 ^ x) (next k)
  where
    next : (k : ℕ) → 2 * k + 2 ≡ 2 * suc k
    next k = omega arith

module _ (d j : ℕ) (lo : 2 ^ 52 ≤ d) (hi : d < 2 ^ 53) (far : 52 ≤ j) where
  -- with the places for a square's root split off
  pub spread : d * 2 ^ j ≡ d * 2 ^ (j % 2) * 2 ^ 52 * 2 ^ (2 * (j / 2 - 26))
  spread =
      let k : ℕ = j / 2 - 26 in
      let parts : j ≡ j % 2 + 52 + 2 * k = omega arith in
      let powers : 2 ^ j ≡ 2 ^ (j % 2) * 2 ^ 52 * 2 ^ (2 * k) =
      ap (λ (x : ℕ). 2 ^ x) parts ∙ pow-add 2 (j % 2 + 52) (2 * k) ∙ ap (λ (x : ℕ). x * 2 ^ (2 * k)) (pow-add 2 (j % 2) 52) in
      ap (λ (x : ℕ). d * x) powers ∙ sym (mul_assoc d (2 ^ (j % 2) * 2 ^ 52) (2 ^ (2 * k)))
      ∙ ap (λ (x : ℕ). x * 2 ^ (2 * k)) (sym (mul_assoc d (2 ^ (j % 2)) (2 ^ 52)))

  cut : d * 2 ^ j / 4 ^ (j / 2 - 26) ≡ d * 2 ^ (j % 2) * 2 ^ 52
  cut =
      let k : ℕ = j / 2 - 26 in
      ap (λ (x : ℕ). d * 2 ^ j / x) (four-pow k) ∙ ap (λ (x : ℕ). x / 2 ^ (2 * k)) spread ∙ mul-div_cancel (d * 2 ^ (j % 2) * 2 ^ 52) (pow_pos (2 * k))

  pub root-at : root_at (d * 2 ^ j) ≡ odd 54 false (nearest_root (d * 2 ^ (j % 2) * 2 ^ 52)) (j / 2 - 26) 1074
  unfolding root_at
  root-at =
      let half : suc (53 + j) / 2 - 53 ≡ j / 2 - 26 = omega arith in
      ap (λ (z : ℕ). odd 54 false (nearest_root (d * 2 ^ j / 4 ^ z)) z 1074) (ap (λ (z : ℕ). suc z / 2 - 53) (size-shifted d j lo hi) ∙ half)
      ∙ ap (λ (w : ℕ). odd 54 false (nearest_root w) (j / 2 - 26) 1074) cut

-- ---- what a pattern counts
pub count_low : (b : ℕ) → b < 2 ^ 52 → count b ≡ b
unfolding count
count_low b h = ap (λ (t : Bool). cond t b ((b % 2 ^ 52 + 2 ^ 52) * 2 ^ (b / 2 ^ 52 - 1))) (is_true (ltb b (2 ^ 52)) (lt→ltb b (2 ^ 52) h))

pub count-high : (b : ℕ) → 2 ^ 52 ≤ b → count b ≡ (b % 2 ^ 52 + 2 ^ 52) * 2 ^ (b / 2 ^ 52 - 1)
unfolding count
count-high b h =
    ap (λ (t : Bool). cond t b ((b % 2 ^ 52 + 2 ^ 52) * 2 ^ (b / 2 ^ 52 - 1)))
    (is_false (ltb b (2 ^ 52)) (not_T (ltb b (2 ^ 52)) (λ t. no (ltb→lt b (2 ^ 52) t))))
  where
    no : b < 2 ^ 52 → ⊥
    no l = omega arith

count-normal : (d k : ℕ) → 2 ^ 52 ≤ d → d < 2 ^ 53 → count (k * 2 ^ 52 + d) ≡ d * 2 ^ k
count-normal d k lo hi =
    let b : ℕ = k * 2 ^ 52 + d in
    let x : b % 2 ^ 52 + 2 ^ 52 ≡ d = omega arith in
    let y : b / 2 ^ 52 - 1 ≡ k = omega arith in
    count-high b (omega arith) ∙ ap (λ (z : ℕ). z * 2 ^ (b / 2 ^ 52 - 1)) x ∙ ap (λ (z : ℕ). d * 2 ^ z) y

-- ---- a number above zero that fits: m * 2 ^ e is m * 2 ^ i units
pub record Place (e : ℤ) : Type 0 where
  pub i : ℕ
  pub is : (m : ℕ) → m * up e * 2 ^ 1074 ≡ m * 2 ^ i * down e

pub place : (e : ℤ) → down e ≤ 2 ^ 1074 → Place e
place (pos a) h = record {
  i = a + 1074;
  is = λ m. mul_assoc m (2 ^ a) (2 ^ 1074) ∙ ap (λ (x : ℕ). m * x) (sym (pow-add 2 a 1074)) ∙ sym (mul-one (m * 2 ^ (a + 1074)));
}
place (negsuc a) h =
    let l : suc a ≤ 1074 = pow_le_back (suc a) 1074 h in
    record {
      i = 1074 - suc a;
      is = λ m.
          ap (λ (x : ℕ). x * 2 ^ 1074) (mul-one m)
          ∙ ap (λ (x : ℕ). m * x) (ap (λ (x : ℕ). 2 ^ x) (sym (back 1074 (suc a) l)) ∙ pow-add 2 (1074 - suc a) (suc a))
          ∙ sym (mul_assoc m (2 ^ (1074 - suc a)) (2 ^ suc a));
    }

-- what `fits` says of a number other than zero
pub record Held (m : ℕ) (e : ℤ) : Type 0 where
  pub short : m < 2 ^ 53
  pub deep : down e ≤ 2 ^ 1074
  pub under : m * up e < 2 ^ 1024 * down e

pub held : (s : Bool) (m : ℕ) (e : ℤ) → T (fits binary64 (fin s (suc m) e)) → Held (suc m) e
unfolding fits
held s m e h =
    let A = eqb (suc m % 2) 1 in
    let B = ltb (suc m) (2 ^ 53) in
    let C = leb (down e) (2 ^ 1074) in
    let D = ltb (suc m * up e) (2 ^ 1024 * down e) in
    record {
      short = ltb→lt (suc m) (2 ^ 53) (and_r A B (and_l (A && B) C (and_l (A && B && C) D h)));
      deep = leb→le (down e) (2 ^ 1074) (and_r (A && B) C (and_l (A && B && C) D h));
      under = ltb→lt (suc m * up e) (2 ^ 1024 * down e) (and_r (A && B && C) D h);
    }

-- the number's units, and what its pattern counts
pub record Units (m : ℕ) (e : ℤ) : Type 0 where
  pub n : ℕ
  pub i : ℕ
  pub shape : n ≡ m * 2 ^ i
  pub value : m * up e * 2 ^ 1074 ≡ n * down e
  pub short : m < 2 ^ 53
  pub some : 0 < n
  pub most : n < 2 ^ 2098

pub units : (m : ℕ) (e : ℤ) → T (fits binary64 (fin false (suc m) e)) → Units (suc m) e
units m e f =
    let h = held false m e f in
    let p = place e h.deep in
    let n : ℕ = suc m * 2 ^ p.i in
    record {
      n = n;
      i = p.i;
      shape = refl;
      value = p.is (suc m);
      short = h.short;
      some = mul-pos (zero-lt-suc m) (pow_pos p.i);
      most = lt_of_mul-lt-mul_right (down e)
          (subst (λ (x : ℕ). x < 2 ^ 2098 * down e) (p.is (suc m))
          (lt_of_lt_of_le (mul-lt-mul_of_pos_right h.under (pow_pos 1074))
          (le_of_eq (mul_right_comm (2 ^ 1024) (down e) (2 ^ 1074) ∙ ap (λ (x : ℕ). x * down e) (sym (pow-add 2 1024 1074))))));
    }

module _ (m : ℕ) (e : ℤ) (f : T (fits binary64 (fin false (suc m) e))) where
  pub counted : (suc m * up e * 2 ^ 1074 / down e) ≡ (units m e f).n
  counted = ap (λ (x : ℕ). x / down e) (units m e f).value ∙ mul-div_cancel (units m e f).n (down_pos e)

  bits : to_bits binary64 (fin false (suc m) e) ≡ (size (units m e f).n - 53) * 2 ^ 52 + (units m e f).n / 2 ^ (size (units m e f).n - 53)
  bits = bits_of (fin false (suc m) e) (units m e f).n (refl, (units m e f).value)

  low_bits : (units m e f).n < 2 ^ 52 → to_bits binary64 (fin false (suc m) e) ≡ (units m e f).n
  low_bits h =
      let n : ℕ = (units m e f).n in
      let z : size n - 53 ≡ 0 = short (size n) (size-le n 52 h) in
      bits ∙ ap (λ (k : ℕ). k * 2 ^ 52 + n / 2 ^ k) z ∙ zero-add (n / 1) ∙ div-one n
    where
      short : (s : ℕ) → s ≤ 52 → s - 53 ≡ 0
      short s h = omega arith

  -- the 53 leading digits
  pub record Lead : Type 0 where
    pub d : ℕ
    pub k : ℕ
    pub lo : 2 ^ 52 ≤ d
    pub hi : d < 2 ^ 53
    pub few : k ≤ 2045
    pub is : d * 2 ^ k ≡ (units m e f).n

  pub lead : 2 ^ 52 ≤ (units m e f).n → Lead
  lead h =
      let u = units m e f in
      let n : ℕ = u.n in
      let k : ℕ = size n - 53 in
      let grown : 52 < size n = pow_lt_back 52 (size n) (lt_of_le_of_lt h (size-lt n)) in
      let in_reach : 52 + k < size n = omega arith in
      let far : size n ≤ 53 + u.i = size-le n (53 + u.i) (subst (λ (x : ℕ). x < 2 ^ (53 + u.i)) (sym u.shape) (shl_lt 53 u.i u.short)) in
      let k-le : k ≤ u.i = omega arith in
      let top : size n ≤ 2098 = size-le n 2098 u.most in
      let q : ℕ = suc m * 2 ^ (u.i - k) in
      let whole : q * 2 ^ k ≡ n =
      mul_assoc (suc m) (2 ^ (u.i - k)) (2 ^ k) ∙ ap (λ (x : ℕ). suc m * x) (sym (pow-add 2 (u.i - k) k) ∙ ap (λ (x : ℕ). 2 ^ x) (back u.i k k-le))
      ∙ sym u.shape in
      let kept : n / 2 ^ k ≡ q = ap (λ (x : ℕ). x / 2 ^ k) (sym whole) ∙ mul-div_cancel q (pow_pos k) in
      record {
        d = q;
        k = k;
        lo = subst (λ (x : ℕ). 2 ^ 52 ≤ x) kept ((le-div_iff_mul-le (pow_pos k)).1 (le_trans (le_of_eq (sym (pow-add 2 52 k)))
            (size_reaches n (52 + k) in_reach)));
        hi = subst (λ (x : ℕ). x < 2 ^ 53) kept (kept-lt 53 n);
        few = omega arith;
        is = whole;
      }

  -- the pattern's range, and what it counts
  pub record Pattern : Type 0 where
    pub some : 0 < to_bits binary64 (fin false (suc m) e)
    pub most : to_bits binary64 (fin false (suc m) e) < 0x7ff0_0000_0000_0000
    pub counts : count (to_bits binary64 (fin false (suc m) e)) ≡ (units m e f).n

  pub pattern : Pattern
  pattern = go (ltb (units m e f).n (2 ^ 52)) (ltb→lt (units m e f).n (2 ^ 52)) (nltb→le (units m e f).n (2 ^ 52))
    where
      go : (b : Bool) → (T b → (units m e f).n < 2 ^ 52) → (T (not b) → 2 ^ 52 ≤ (units m e f).n) → Pattern
      go true l g =
          let n : ℕ = (units m e f).n in
          let h : n < 2 ^ 52 = l tt in
          let b = low_bits h in
          let p : 0 < n = (units m e f).some in
          record { some = omega arith; most = omega arith; counts = ap count b ∙ count_low n h }
      go false l g =
          let r = lead (g tt) in
          let b : to_bits binary64 (fin false (suc m) e) ≡ r.k * 2 ^ 52 + r.d =
          bits-normal (fin false (suc m) e) r.d r.k r.lo r.hi (refl, (units m e f).value ∙ ap (λ (x : ℕ). x * down e) (sym r.is)) in
          record { some = omega (arith, r.lo); most = omega (arith, r.few, r.hi); counts = ap count b ∙ count-normal r.d r.k r.lo r.hi ∙ r.is }
