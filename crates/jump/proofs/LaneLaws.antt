-- Sums in lanes and xors agree: a row's total, lane by lane to its parity, is the row applied. Assumes nothing.
use Rattle.std.specs.Prelude.{◌≡◌, refl, List, [], ◌∷◌, ℕ, zero, suc, ◌+◌, ◌*◌, ◌/◌, ◌%◌, ◌^◌, ◌≤◌, ◌<◌, length}
use Rattle.std.proofs.Common.{sym, ap, ap₂, ◌∙◌, subst, pow-suc, le_trans, arith}
use Rattle.std.proofs.Math.Nat.{le-suc}
use Rattle.std.specs.Int.Bits.{bit_xor, differ, xor_step}
use Rattle.jump.specs.Apply.{taken, apply}
use Rattle.jump.specs.Lanes.{wide, parity, widened, total}

-- each of the n low lanes holds at most m
abbrev Below : ℕ → ℕ → ℕ → Type 0
Below m zero z = Unit
Below m (suc n) z = (z % 128 ≤ m) × Below m n (z / 128)

-- ---- one lane
carry : (a b p q : ℕ) → p + q < 128 → a % 128 ≤ p → b % 128 ≤ q → (a + b) / 128 ≡ a / 128 + b / 128
carry a b p q h x y = omega arith

lane-add : (a b p q : ℕ) → p + q < 128 → a % 128 ≤ p → b % 128 ≤ q → (a + b) % 128 ≤ p + q
lane-add a b p q h x y = omega arith

odd-sum : (a b : ℕ) → (a + b) % 2 ≡ differ (a % 2) (b % 2)
odd-sum a b = go (a % 2) (b % 2) (omega arith) (omega arith) (omega arith)
  where
    go : (x y : ℕ) → x < 2 → y < 2 → (a + b) % 2 ≡ (x + y) % 2 → (a + b) % 2 ≡ differ x y
    go zero zero h k e = e
    go zero (suc zero) h k e = e
    go zero (suc (suc y)) h k e = absurd (omega arith)
    go (suc zero) zero h k e = e
    go (suc zero) (suc zero) h k e = e
    go (suc zero) (suc (suc y)) h k e = absurd (omega arith)
    go (suc (suc x)) y h k e = absurd (omega arith)

half : (p r : ℕ) → (p * 2 + r % 2) / 2 ≡ p
half p r = omega arith

digit : (p r : ℕ) → (p * 2 + r % 2) % 2 ≡ r % 2
digit p r = omega arith

xor-digits : (p q a b : ℕ) → bit_xor (p * 2 + a % 2) (q * 2 + b % 2) ≡ bit_xor p q * 2 + differ (a % 2) (b % 2)
xor-digits p q a b =
    xor_step (p * 2 + a % 2) (q * 2 + b % 2)
    ∙ ap₂ (λ (x y : ℕ). x * 2 + y) (ap₂ bit_xor (half p a) (half q b)) (ap₂ differ (digit p a) (digit q b))

-- ---- n lanes
parity-add : (n a b p q : ℕ) → p + q < 128 → Below p n a → Below q n b → parity n (a + b) ≡ bit_xor (parity n a) (parity n b)
parity-add zero a b p q h x y = refl
parity-add (suc n) a b p q h x y =
    ap₂ (λ (u v : ℕ). u * 2 + v) (ap (parity n) (carry a b p q h x.0 y.0) ∙ parity-add n (a / 128) (b / 128) p q h x.1 y.1) (odd-sum a b)
    ∙ sym (xor-digits (parity n (a / 128)) (parity n (b / 128)) a b)

below-add : (n a b p q : ℕ) → p + q < 128 → Below p n a → Below q n b → Below (p + q) n (a + b)
below-add zero a b p q h x y = tt
below-add (suc n) a b p q h x y =
    (lane-add a b p q h x.0 y.0, subst (Below (p + q) n) (sym (carry a b p q h x.0 y.0)) (below-add n (a / 128) (b / 128) p q h x.1 y.1))

lane : (w x : ℕ) → (w * 128 + x % 2) % 128 ≤ 1
lane w x = omega arith

next : (w x : ℕ) → (w * 128 + x % 2) / 128 ≡ w
next w x = omega arith

low_bit : (w x : ℕ) → (w * 128 + x % 2) % 2 ≡ x % 2
low_bit w x = omega arith

wide_below : (n x : ℕ) → Below 1 n (wide n x)
wide_below zero x = tt
wide_below (suc n) x = (lane (wide n (x / 2)) x, subst (Below 1 n) (sym (next (wide n (x / 2)) x)) (wide_below n (x / 2)))

halved : (x p : ℕ) → x < p * 2 → x / 2 < p
halved x p h = omega arith

back : (x : ℕ) → x / 2 * 2 + x % 2 ≡ x
back x = omega arith

parity-wide : (n x : ℕ) → x < 2 ^ n → parity n (wide n x) ≡ x
parity-wide zero x h = omega arith
parity-wide (suc n) x h =
    ap₂ (λ (u v : ℕ). u * 2 + v)
    (ap (parity n) (next (wide n (x / 2)) x) ∙ parity-wide n (x / 2) (halved x (2 ^ n) (subst (λ (y : ℕ). x < y) (pow-suc 2 n) h)))
    (low_bit (wide n (x / 2)) x)
    ∙ back x

-- ---- a row
abbrev pub Words : List ℕ → Type 0
Words [] = Unit
Words (w ∷ ws) = (w < 2 ^ 64) × Words ws

none : (n q : ℕ) → Below q n 0
none zero q = tt
none (suc n) q = (omega arith, none n q)

parity-zero : (n : ℕ) → parity n 0 ≡ 0
parity-zero zero = refl
parity-zero (suc n) = ap (λ (u : ℕ). u * 2 + 0) (parity-zero n)

no_word : (a t : ℕ) → t ≡ 0 * a + t
no_word a t = omega arith

one_word : (a t : ℕ) → a + t ≡ 1 * a + t
one_word a t = omega arith

room : (l : ℕ) → suc l < 128 → 1 + l < 128
room l h = omega arith

less : (l : ℕ) → suc l < 128 → l < 128
less l h = omega arith

one_more : (l : ℕ) → 1 + l ≡ suc l
one_more l = omega arith

widen : (n m z : ℕ) → Below m n z → Below (suc m) n z
widen zero m z b = tt
widen (suc n) m z b = (le_trans b.0 (le-suc m), widen n m (z / 128) b.1)

total-step : (n w l t b : ℕ) → b < 2 → suc l < 128 → Below l n t → Below (suc l) n (b * wide n w + t)
total-step n w l t zero k h i = subst (Below (suc l) n) (no_word (wide n w) t) (widen n l t i)
total-step n w l t (suc zero) k h i =
    subst (Below (suc l) n) (one_word (wide n w) t)
    (subst (λ (m : ℕ). Below m n (wide n w + t)) (one_more l) (below-add n (wide n w) t 1 l (room l h) (wide_below n w) i))
total-step n w l t (suc (suc b)) k h i = absurd (omega arith)

bit : (x : ℕ) → x % 2 < 2
bit x = omega arith

total-below : (ws : List ℕ) (x : ℕ) → length ws < 128 → Below (length ws) 64 (total (widened ws) x)
total-below [] x h = none 64 0
total-below (w ∷ ws) x h = total-step 64 w (length ws) (total (widened ws) (x / 2)) (x % 2) (bit x) h (total-below ws (x / 2) (less (length ws) h))

applied-step : (n w l t r b : ℕ) → b < 2 → suc l < 128 → w < 2 ^ n → Below l n t → parity n t ≡ r → parity n (b * wide n w + t) ≡ taken b w r
applied-step n w l t r zero k h v i e = ap (parity n) (sym (no_word (wide n w) t)) ∙ e
applied-step n w l t r (suc zero) k h v i e =
    ap (parity n) (sym (one_word (wide n w) t)) ∙ parity-add n (wide n w) t 1 l (room l h) (wide_below n w) i ∙ ap₂ bit_xor (parity-wide n w v) e
applied-step n w l t r (suc (suc b)) k h v i e = absurd (omega arith)

-- the law: a total's parities are the words at the set bits, xored
pub applied : (ws : List ℕ) (x : ℕ) → length ws < 128 → Words ws → parity 64 (total (widened ws) x) ≡ apply ws x
applied [] x h v = parity-zero 64
applied (w ∷ ws) x h v =
    let fits = less (length ws) h in
    let y = x / 2 in
    applied-step 64 w (length ws) (total (widened ws) y) (apply ws y) (x % 2) (bit x) h v.0 (total-below ws y fits) (applied ws y fits v.1)
