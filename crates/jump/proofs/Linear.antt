-- A draw is linear over bits, so it is its table of 64 words applied; and a table applied to its own words is the table of two draws. Assumes nothing.
use Rattle.std.specs.Prelude.{◌≡◌, refl, List, [], ◌∷◌, ℕ, zero, suc, ◌+◌, ◌*◌, ◌/◌, ◌%◌, ◌^◌, ◌<◌}
use Rattle.std.proofs.Common.{sym, ap, ap₂, ◌∙◌, subst, pow-suc, add-zero, arith}
use Rattle.std.proofs.Math.Arith.{bin_ind}
use Rattle.std.specs.Int.Bits.{bit_xor, xor_self, xor_zero_r, xor_shifted}
use Rattle.std.proofs.lemmas.Nat.{xor_comm, xor_shr, xor_mod, xor_block}
use Rattle.xorshift.specs.Xorshift.{shifted_left, shifted_right, xored_left, xored_right, step_of}
use Rattle.jump.specs.Apply.{taken, apply}

-- ---- xor
half : (a b : ℕ) → bit_xor a b / 2 ≡ bit_xor (a / 2) (b / 2)
half a b = xor_shr a b 1

bit-of : (a b : ℕ) → bit_xor a b % 2 ≡ bit_xor (a % 2) (b % 2)
bit-of a b = xor_mod a b 1

bits : (a : ℕ) → a % 2 < 2
bits a = omega arith

small-assoc : (x y z : ℕ) → x < 2 → y < 2 → z < 2 → bit_xor (bit_xor x y) z ≡ bit_xor x (bit_xor y z)
small-assoc zero y z h k l = refl
small-assoc (suc zero) zero z h k l = refl
small-assoc (suc zero) (suc zero) zero h k l = refl
small-assoc (suc zero) (suc zero) (suc zero) h k l = refl
small-assoc (suc zero) (suc zero) (suc (suc z)) h k l = absurd (omega arith)
small-assoc (suc zero) (suc (suc y)) z h k l = absurd (omega arith)
small-assoc (suc (suc x)) y z h k l = absurd (omega arith)

put : (a : ℕ) → a / 2 * 2 + a % 2 ≡ a
put a = omega arith

-- numbers are equal when their halves and last bits are
by-halves : (a b : ℕ) → a / 2 ≡ b / 2 → a % 2 ≡ b % 2 → a ≡ b
by-halves a b p q = sym (put a) ∙ ap₂ (λ (x y : ℕ). x * 2 + y) p q ∙ put b

pub xor_assoc : (a b c : ℕ) → bit_xor (bit_xor a b) c ≡ bit_xor a (bit_xor b c)
xor_assoc a =
    bin_ind (λ (n : ℕ). (b c : ℕ) → bit_xor (bit_xor n b) c ≡ bit_xor n (bit_xor b c)) (λ b c. refl)
    (λ n ih b c. by-halves (bit_xor (bit_xor n b) c) (bit_xor n (bit_xor b c))
    (half (bit_xor n b) c ∙ ap (λ (x : ℕ). bit_xor x (c / 2)) (half n b) ∙ ih (b / 2) (c / 2) ∙ sym (half n (bit_xor b c) ∙ ap (bit_xor (n / 2)) (half b c)))
    (bit-of (bit_xor n b) c ∙ ap (λ (x : ℕ). bit_xor x (c % 2)) (bit-of n b) ∙ small-assoc (n % 2) (b % 2) (c % 2) (bits n) (bits b) (bits c)
    ∙ sym (bit-of n (bit_xor b c) ∙ ap (bit_xor (n % 2)) (bit-of b c))))
    a

-- (a ^ b) ^ (c ^ d) = (a ^ c) ^ (b ^ d)
xor-swap : (a b c d : ℕ) → bit_xor (bit_xor a b) (bit_xor c d) ≡ bit_xor (bit_xor a c) (bit_xor b d)
xor-swap a b c d =
    xor_assoc a b (bit_xor c d)
    ∙ ap (bit_xor a) (sym (xor_assoc b c d) ∙ ap (λ (x : ℕ). bit_xor x d) (xor_comm b c) ∙ xor_assoc c b d)
    ∙ sym (xor_assoc a c (bit_xor b d))

-- ---- linear functions
abbrev pub Linear : (ℕ → ℕ) → Type 0
Linear f = ((x y : ℕ) → f (bit_xor x y) ≡ bit_xor (f x) (f y)) × (f 0 ≡ 0)

pub linear-then : (f g : ℕ → ℕ) → Linear f → Linear g → Linear (λ x. g (f x))
linear-then f g p q = ((λ x y. ap g (p.0 x y) ∙ q.0 (f x) (f y)), ap g p.1 ∙ q.1)

linear-xor : (f g : ℕ → ℕ) → Linear f → Linear g → Linear (λ x. bit_xor (f x) (g x))
linear-xor f g p q = ((λ x y. ap₂ bit_xor (p.0 x y) (q.0 x y) ∙ xor-swap (f x) (f y) (g x) (g y)), ap₂ bit_xor p.1 q.1)

pub linear-self : Linear (λ x. x)
linear-self = ((λ x y. refl), refl)

linear-shr : (k : ℕ) → 0 / 2 ^ k ≡ 0 → Linear (λ x. x / 2 ^ k)
linear-shr k z = ((λ x y. xor_shr x y k), z)

linear-mod : (k : ℕ) → 0 % 2 ^ k ≡ 0 → Linear (λ x. x % 2 ^ k)
linear-mod k z = ((λ x y. xor_mod x y k), z)

shift-xor : (k a b : ℕ) → 0 < 2 ^ k → bit_xor a b * 2 ^ k ≡ bit_xor (a * 2 ^ k) (b * 2 ^ k)
shift-xor k a b h = sym (ap₂ bit_xor (sym (add-zero (a * 2 ^ k))) (sym (add-zero (b * 2 ^ k))) ∙ xor_block k a b 0 0 h h ∙ add-zero (bit_xor a b * 2 ^ k))

linear-shl : (k : ℕ) → 0 < 2 ^ k → 0 * 2 ^ k ≡ 0 → Linear (λ x. x * 2 ^ k)
linear-shl k h z = ((λ x y. shift-xor k x y h), z)

-- ---- a table applied is linear
four : (w a b : ℕ) (x y : ℕ) → x < 2 → y < 2 → taken (bit_xor x y) w (bit_xor a b) ≡ bit_xor (taken x w a) (taken y w b)
four w a b zero zero h k = refl
four w a b zero (suc zero) h k = sym (xor_assoc w a b) ∙ ap (λ (z : ℕ). bit_xor z b) (xor_comm w a) ∙ xor_assoc a w b
four w a b (suc zero) zero h k = sym (xor_assoc w a b)
four w a b (suc zero) (suc zero) h k = sym (xor-swap w a w b ∙ ap (λ (z : ℕ). bit_xor z (bit_xor a b)) (xor_self w))
four w a b zero (suc (suc y)) h k = absurd (omega arith)
four w a b (suc zero) (suc (suc y)) h k = absurd (omega arith)
four w a b (suc (suc x)) y h k = absurd (omega arith)

apply-xor : (ws : List ℕ) (x y : ℕ) → apply ws (bit_xor x y) ≡ bit_xor (apply ws x) (apply ws y)
apply-xor [] x y = refl
apply-xor (w ∷ ws) x y =
    ap₂ (λ (b r : ℕ). taken b w r) (bit-of x y) (ap (apply ws) (half x y) ∙ apply-xor ws (x / 2) (y / 2))
    ∙ four w (apply ws (x / 2)) (apply ws (y / 2)) (x % 2) (y % 2) (bits x) (bits y)

apply-zero : (ws : List ℕ) → apply ws 0 ≡ 0
apply-zero [] = refl
apply-zero (w ∷ ws) = apply-zero ws

pub apply-linear : (ws : List ℕ) → Linear (apply ws)
apply-linear ws = (apply-xor ws, apply-zero ws)

-- ---- a linear function is its words on 1, 2, 4, .. applied
abbrev pub words : ℕ → (ℕ → ℕ) → List ℕ
words zero f = []
words (suc n) f = f 1 ∷ words n (λ y. f (y * 2))

twice-linear : (f : ℕ → ℕ) → Linear f → Linear (λ y. f (y * 2))
twice-linear f p = linear-then (λ y. y * 2) f (linear-shl 1 (omega arith) refl) p

parts : (x : ℕ) → bit_xor (x / 2 * 2) (x % 2) ≡ x
parts x = xor_shifted (x / 2) 1 (x % 2) (omega arith) ∙ put x

one_bit : (f : ℕ → ℕ) (b r : ℕ) → b < 2 → f 0 ≡ 0 → bit_xor r (f b) ≡ taken b (f 1) r
one_bit f zero r h z = ap (bit_xor r) z ∙ xor_zero_r r
one_bit f (suc zero) r h z = xor_comm r (f 1)
one_bit f (suc (suc b)) r h z = absurd (omega arith)

halved : (x p : ℕ) → x < p * 2 → x / 2 < p
halved x p h = omega arith

pub is-applied : (n : ℕ) (f : ℕ → ℕ) → Linear f → (x : ℕ) → x < 2 ^ n → apply (words n f) x ≡ f x
is-applied zero f p x h = sym (ap f (omega arith) ∙ p.1)
is-applied (suc n) f p x h =
    ap (taken (x % 2) (f 1)) (is-applied n (λ y. f (y * 2)) (twice-linear f p) (x / 2) (halved x (2 ^ n) (subst (λ (y : ℕ). x < y) (pow-suc 2 n) h)))
    ∙ sym (one_bit f (x % 2) (f (x / 2 * 2)) (bits x) p.1) ∙ sym (p.0 (x / 2 * 2) (x % 2)) ∙ ap f (parts x)

-- ---- and the table of g's images of the words is g after the table
abbrev pub each : (ℕ → ℕ) → List ℕ → List ℕ
each g [] = []
each g (w ∷ ws) = g w ∷ each g ws

taken-image : (g : ℕ → ℕ) → Linear g → (b w r : ℕ) → taken b (g w) (g r) ≡ g (taken b w r)
taken-image g p zero w r = refl
taken-image g p (suc b) w r = sym (p.0 w r)

images-applied : (g : ℕ → ℕ) → Linear g → (ws : List ℕ) (x : ℕ) → apply (each g ws) x ≡ g (apply ws x)
images-applied g p [] x = sym p.1
images-applied g p (w ∷ ws) x = ap (taken (x % 2) (g w)) (images-applied g p ws (x / 2)) ∙ taken-image g p (x % 2) w (apply ws (x / 2))

-- table k + 1, which is table k's words with table k applied to them, is table k twice
pub doubled-twice : (row : List ℕ) (x : ℕ) → apply (each (apply row) row) x ≡ apply row (apply row x)
doubled-twice row x = images-applied (apply row) (apply-linear row) row x

-- ---- a draw
linear-left : (k : ℕ) → 0 < 2 ^ k → 0 * 2 ^ k ≡ 0 → Linear (xored_left k)
linear-left k h z =
    linear-xor (λ x. x) (λ x. shifted_left x k) linear-self (linear-then (λ x. x * 2 ^ k) (λ x. x % 2 ^ 64) (linear-shl k h z) (linear-mod 64 refl))

linear-right : (k : ℕ) → 0 / 2 ^ k ≡ 0 → Linear (xored_right k)
linear-right k z = linear-xor (λ x. x) (λ x. shifted_right x k) linear-self (linear-shr k z)

pub step-linear : Linear step_of
unfolding step_of
step-linear =
    linear-then (xored_left 13) (λ x. xored_left 17 (xored_right 7 x)) (linear-left 13 (omega arith) refl)
    (linear-then (xored_right 7) (xored_left 17) (linear-right 7 refl) (linear-left 17 (omega arith) refl))
