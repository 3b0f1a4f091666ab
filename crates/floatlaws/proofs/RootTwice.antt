-- std takes a root by `root_twice`: twice the root where that is whole, and else the odd number between twice its two neighbours. At 4 * w * (h * h) that is
-- 4 * h times the root of w, and it is rounded to a multiple of 4 * h: so to the whole number nearest to the root of w, `nears`. Assumes nothing.
use Rattle.std.specs.Prelude.{◌≡◌, ℕ, suc, ◌+◌, ◌*◌, ◌/◌, ◌%◌, ◌^◌, ◌≤◌, ◌<◌, Bool, true, false, not, cond, T, eqb}
use Rattle.std.proofs.Common.{sym, ap, ◌∙◌, subst, le_trans, le_of_eq, lt_of_lt_of_le, lt_of_not-le, mul-le-mul, mul_assoc, mul-pos, arith, eqb→eq}
use Rattle.std.proofs.Common.{lt_of_mul-lt-mul_right, le_of_mul-le-mul_right, leb→le, mul_left_comm, mul-add, add-mul, one-mul, div-add-mod'}
use Rattle.std.proofs.Common.{mod-lt, le-div_iff_mul-le}
use Rattle.std.proofs.Math.Arith.{lt_of_le-ne}
use Rattle.std.proofs.Math.Dec.{nleb→lt, is_le, compare_is_eq}
use Rattle.std.proofs.Math.Nat.{mul-mul-mul_comm, eq_of_mul-eq-mul_right}
use Prim.Native.Nat.{compare, Ordering}
use Rattle.std.specs.Float.Ieee.{size, root_below, root_twice, nearest}
use Rattle.std.specs.Float.Ieee.Root.{Root, whole_part}
use Rattle.std.specs.Float.Ieee.Nearest.{closest}
use Rattle.floats.specs.Steps.{Nears}
use Rattle.floats.proofs.RootLaws.{sq-suc, sq-twice}

-- t lies to 2 r as the root of n to r
pub record Twice (n t : ℕ) : Type 0 where
  pub low : (r : ℕ) → 2 * r ≤ t → r * r ≤ n
  pub high : (r : ℕ) → t < 2 * r → n < r * r
  pub exact : (r : ℕ) → t ≡ 2 * r → n ≡ r * r

pub twice : (n : ℕ) → Twice n (root_twice n)
unfolding root_twice
twice n = go (root_below (size n) n) (whole_part n) (eqb (root_below (size n) n * root_below (size n) n) n) (eqb→eq _ n)
  where
    go : (r : ℕ) → Root r n → (b : Bool) → (T b → r * r ≡ n) → Twice n (2 * r + cond b 0 1)
    go r h true e = record {
      low = λ q l. let m : q ≤ r = omega arith in le_trans (mul-le-mul m m) h.0;
      high = λ q l. let m : r + 1 ≤ q = omega arith in lt_of_lt_of_le h.1 (mul-le-mul m m);
      exact = λ q l. let m : r ≡ q = omega arith in sym (e tt) ∙ ap (λ (x : ℕ). x * x) m;
    }
    go r h false e = record {
      low = λ q l. let m : q ≤ r = omega arith in le_trans (mul-le-mul m m) h.0;
      high = λ q l. let m : r + 1 ≤ q = omega arith in lt_of_lt_of_le h.1 (mul-le-mul m m);
      exact = λ q l. absurd (odd r q l);
    }
      where
        odd : (r q : ℕ) → 2 * r + 1 ≡ 2 * q → ⊥
        odd r q l = omega arith

-- ---- at 4 * w * (h * h): t lies to 2 * (c * h) as twice the root of w to c
module _ (w h t : ℕ) (some : 0 < h) (tw : Twice (4 * w * (h * h)) t) (big : 2 ^ 104 ≤ w) (small : w < 2 ^ 106) where
  spread : (c : ℕ) → c * h * (c * h) ≡ c * c * (h * h)
  spread c = mul-mul-mul_comm c h c h

  low : (c : ℕ) → 2 * (c * h) ≤ t → c * c ≤ 4 * w
  low c l = le_of_mul-le-mul_right (le_trans (le_of_eq (sym (spread c))) (tw.low (c * h) l)) (mul-pos some some)

  high : (c : ℕ) → t < 2 * (c * h) → 4 * w < c * c
  high c l = lt_of_mul-lt-mul_right (h * h) (lt_of_lt_of_le (tw.high (c * h) l) (le_of_eq (spread c)))

  exact : (c : ℕ) → t ≡ 2 * (c * h) → 4 * w ≡ c * c
  exact c l = eq_of_mul-eq-mul_right (h * h) (mul-pos some some) (4 * w) (c * c) (tw.exact (c * h) l ∙ spread c)

  -- t is from 2 ^ 52 up to 2 ^ 53, in units of 4 * h
  pub least : 2 ^ 52 * (4 * h) ≤ t
  least = past (lt_of_not-le (λ (g : suc t ≤ 2 ^ 52 * (4 * h)). no (high (2 ^ 53) (omega arith))))
    where
      no : 4 * w < 2 ^ 53 * 2 ^ 53 → ⊥
      no l = omega arith

      past : 2 ^ 52 * (4 * h) < suc t → 2 ^ 52 * (4 * h) ≤ t
      past l = omega arith

  pub most : t < 2 ^ 53 * (4 * h)
  most = lt_of_not-le (λ (g : 2 ^ 53 * (4 * h) ≤ t). no (low (2 ^ 54) (omega arith)))
    where
      no : 2 ^ 54 * 2 ^ 54 ≤ 4 * w → ⊥
      no l = omega arith

  -- t is a units of 4 * h and b over
  module _ (a b : ℕ) (is : a * (4 * h) + b ≡ t) (rest : b < 4 * h) (digits : 2 ^ 52 ≤ a) where
    part : a * (4 * h) ≡ 4 * (a * h)
    part = mul_left_comm a 4 h

    even : 2 * a * h ≡ 2 * (a * h)
    even = mul_assoc 2 a h

    odd : (2 * a + 1) * h ≡ 2 * (a * h) + h
    odd = add-mul (2 * a) 1 h ∙ ap (λ (x : ℕ). x + 1 * h) even ∙ ap (λ (x : ℕ). 2 * (a * h) + x) (one-mul h)

    next : 2 * (a + 1) * h ≡ 2 * (a * h) + 2 * h
    next = mul_assoc 2 (a + 1) h ∙ ap (λ (x : ℕ). 2 * x) (add-mul a 1 h ∙ ap (λ (x : ℕ). a * h + x) (one-mul h)) ∙ mul-add 2 (a * h) h

    square : (2 * a + 1) * (2 * a + 1) ≡ 4 * (a * a) + 4 * a + 1
    square = let x = sq-suc (2 * a) in let y = sq-twice a in omega arith

    whole : 4 * (a * a) ≤ 4 * w
    whole = subst (λ (x : ℕ). x ≤ 4 * w) (sq-twice a) (low (2 * a) (let x = part in let y = even in omega arith))

    under : 4 * w < 4 * ((a + 1) * (a + 1))
    under = subst (λ (x : ℕ). 4 * w < x) (sq-twice (a + 1)) (high (2 * (a + 1)) (let x = part in let y = next in omega arith))

    tie : b * 2 ≡ 4 * h → ⊥
    tie e = let x = exact (2 * a + 1) (let y = part in let z = odd in omega arith) in let y = square in omega arith

    down : b * 2 < 4 * h → Nears w a
    down l =
        let x = high (2 * a + 1) (let y = part in let z = odd in omega arith) in
        let y = square in
        let z = whole in
        record { over = omega arith; under = omega arith }

    up : 4 * h < b * 2 → Nears w (suc a)
    up l =
        let x = low (2 * a + 1) (let y = part in let z = odd in omega arith) in
        let y = square in
        let z = under in
        let e : suc a * suc a ≡ a * a + 2 * a + 1 = subst (λ (x : ℕ). x * x ≡ a * a + 2 * a + 1) (one_more a) (sq-suc a) in
        let f = sq-suc a in
        record { over = omega arith; under = omega arith }
      where
        one_more : (b : ℕ) → b + 1 ≡ suc b
        one_more b = omega arith

    pub chosen : (o : Ordering) → (T (is_le o) → b * 2 ≤ 4 * h) → (T (not (is_le o)) → 4 * h < b * 2) → (T (compare_is_eq o) → b * 2 ≡ 4 * h)
        → Nears w (nearest a o)
    chosen Ordering.lt f g e = down (lt_of_le-ne (f tt) tie)
    chosen Ordering.eq f g e = absurd (tie (e tt))
    chosen Ordering.gt f g e = up (g tt)

  pub nears : Nears w (closest t (4 * h))
  nears =
      let u : ℕ = 4 * h in
      let p : 0 < u = omega arith in
      chosen (t / u) (t % u) (div-add-mod' t u) (mod-lt t p) ((le-div_iff_mul-le p).1 least) (compare (t % u * 2) u) (leb→le (t % u * 2) u)
      (nleb→lt (t % u * 2) u) (eqb→eq (t % u * 2) u)
