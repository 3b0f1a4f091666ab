-- The order of floats through the rounded operations: a sum grows with both terms, a product with a factor by the other's sign, a quotient by a positive
-- divisor with the dividend. Assumes nothing.
use Rattle.std.specs.Prelude.{◌≡◌, refl, ◌⊎◌, ℕ, ◌+◌, ◌-◌, ◌*◌, ◌≤◌, ◌<◌, Bool, true, false, not, cond, T, ltb, eqb, Float}
use Rattle.std.proofs.Common.{sym, ap, ap₂, ◌∙◌, subst, inl, inr, le_trans, le_of_eq, mul-pos, mul_comm, mul-le-mul_right, add-mul, zero-mul, mul-zero}
use Rattle.std.proofs.Common.{add-zero, zero-add, arith, ltb→lt, nltb→le, eqb→eq}
use Rattle.std.proofs.Math.Nat.{mul-mul-mul_comm}
use Rattle.std.specs.Float.{nan, inf, fin, Format}
use Rattle.std.specs.Float.Ieee.{up, down, neg, le, round, sum, add, sub, mul, div, unlike}
use Rattle.std.specs.Float.Ieee.Fits.{up_pos}
use Rattle.floatlaws.specs.Fractions.{Finite, plus, less, den, den_pos, le→under}
use Rattle.floatlaws.specs.Rounding.{Rounded, rounded-mono, neg-anti}

-- ---- a sum
abbrev on_plus : Bool → ℕ → ℕ
on_plus false a = a
on_plus true a = 0

abbrev on_less : Bool → ℕ → ℕ
on_less false a = 0
on_less true a = a

same : (a b : ℕ) → a + b ≡ 0 + 0 + (a + b)
same a b = omega arith

sum-rounded : (f : Format) (s : Bool) (a : ℕ) (t : Bool) (b c : ℕ) → Rounded f (sum f s a t b c) (on_plus s a + on_plus t b) (on_less s a + on_less t b) c
unfolding sum
sum-rounded f false a false b c = (false, a + b, refl, same a b)
sum-rounded f true a true b c = (true, a + b, refl, same a b)
sum-rounded f false a true b c = go (ltb a b) (ltb→lt a b) (nltb→le a b)
  where
    go : (x : Bool) → (T x → a < b) → (T (not x) → b ≤ a) → Rounded f (cond x (round f true (b - a) c) (round f false (a - b) c)) (a + 0) (0 + b) c
    go true h k = (true, b - a, refl, omega (arith, h tt))
    go false h k = (false, a - b, refl, omega (arith, k tt))
sum-rounded f true a false b c = go (ltb a b) (ltb→lt a b) (nltb→le a b) (ltb b a) (nltb→le b a)
  where
    go : (x : Bool) → (T x → a < b) → (T (not x) → b ≤ a) → (y : Bool) → (T (not y) → a ≤ b)
        → Rounded f (cond x (round f false (b - a) c) (round f y (a - b) c)) (0 + b) (a + 0) c
    go true h k y l = (false, b - a, refl, omega (arith, h tt))
    go false h k true l = (true, a - b, refl, omega (arith, k tt))
    go false h k false l = (false, a - b, refl, omega (arith, k tt, l tt))

-- ---- products of four factors in another order
swap : (a b c d : ℕ) → a * b * (c * d) ≡ a * c * (b * d)
swap a b c d = mul-mul-mul_comm a b c d

swap-far : (a b c d : ℕ) → a * b * (c * d) ≡ a * d * (b * c)
swap-far a b c d = ap (λ (x : ℕ). a * b * x) (mul_comm c d) ∙ mul-mul-mul_comm a b d c

moved : (f : Format) (z : Float) (c : ℕ) {p q p' q' : ℕ} → p ≡ p' → q ≡ q' → Rounded f z p q c → Rounded f z p' q' c
moved f z c {p} {q} {p'} {q'} e g r = subst (λ (x : ℕ). Rounded f z x q' c) e (subst (λ (y : ℕ). Rounded f z p y c) g r)

add-rounded : (f : Format) (x y : Float) → Finite x → Finite y
    → Rounded f (add f x y) (plus x * den y + plus y * den x) (less x * den y + less y * den x) (den x * den y)
unfolding add
add-rounded f nan y p q = absurd p
add-rounded f (inf s) y p q = absurd p
add-rounded f (fin s m e) nan p q = absurd q
add-rounded f (fin s m e) (inf t) p q = absurd q
add-rounded f (fin false m e) (fin false n d) p q =
    moved f (add f (fin false m e) (fin false n d)) (down e * down d) refl (omega arith)
    (sum-rounded f false (m * up e * down d) false (n * up d * down e) (down e * down d))
add-rounded f (fin false m e) (fin true n d) p q =
    moved f (add f (fin false m e) (fin true n d)) (down e * down d) (omega arith) (omega arith)
    (sum-rounded f false (m * up e * down d) true (n * up d * down e) (down e * down d))
add-rounded f (fin true m e) (fin false n d) p q =
    moved f (add f (fin true m e) (fin false n d)) (down e * down d) (omega arith) (omega arith)
    (sum-rounded f true (m * up e * down d) false (n * up d * down e) (down e * down d))
add-rounded f (fin true m e) (fin true n d) p q =
    moved f (add f (fin true m e) (fin true n d)) (down e * down d) (omega arith) refl
    (sum-rounded f true (m * up e * down d) true (n * up d * down e) (down e * down d))

split2 : (a b c : ℕ) → (a + b) * c ≡ a * c + b * c
split2 a b c = add-mul a b c

pub scaled : (a b c d k : ℕ) → a + b ≤ c + d → a * k + b * k ≤ c * k + d * k
scaled a b c d k h = le_trans (le_of_eq (sym (add-mul a b k))) (le_trans (mul-le-mul_right k h) (le_of_eq (add-mul c d k)))

add-cross : (px qx dx px' qx' dx' py qy dy py' qy' dy' : ℕ) → px * dx' + qx' * dx ≤ px' * dx + qx * dx' → py * dy' + qy' * dy ≤ py' * dy + qy * dy'
    → (px * dy + py * dx) * (dx' * dy') + (qx' * dy' + qy' * dx') * (dx * dy) ≤ (px' * dy' + py' * dx') * (dx * dy) + (qx * dy + qy * dx) * (dx' * dy')
add-cross px qx dx px' qx' dx' py qy dy py' qy' dy' h k =
    let a = scaled (px * dx') (qx' * dx) (px' * dx) (qx * dx') (dy * dy') h in
    let b = scaled (py * dy') (qy' * dy) (py' * dy) (qy * dy') (dx * dx') k in
    let m1 : (px * dy + py * dx) * (dx' * dy') ≡ px * dx' * (dy * dy') + py * dy' * (dx * dx') =
    split2 (px * dy) (py * dx) (dx' * dy') ∙ ap₂ (λ (u v : ℕ). u + v) (swap px dy dx' dy') (swap-far py dx dx' dy') in
    let m2 : (qx' * dy' + qy' * dx') * (dx * dy) ≡ qx' * dx * (dy * dy') + qy' * dy * (dx * dx') =
    split2 (qx' * dy') (qy' * dx') (dx * dy)
    ∙ ap₂ (λ (u v : ℕ). u + v) (swap qx' dy' dx dy ∙ ap (λ (u : ℕ). qx' * dx * u) (mul_comm dy' dy))
    (swap-far qy' dx' dx dy ∙ ap (λ (u : ℕ). qy' * dy * u) (mul_comm dx' dx)) in
    let m3 : (px' * dy' + py' * dx') * (dx * dy) ≡ px' * dx * (dy * dy') + py' * dy * (dx * dx') =
    split2 (px' * dy') (py' * dx') (dx * dy)
    ∙ ap₂ (λ (u v : ℕ). u + v) (swap px' dy' dx dy ∙ ap (λ (u : ℕ). px' * dx * u) (mul_comm dy' dy))
    (swap-far py' dx' dx dy ∙ ap (λ (u : ℕ). py' * dy * u) (mul_comm dx' dx)) in
    let m4 : (qx * dy + qy * dx) * (dx' * dy') ≡ qx * dx' * (dy * dy') + qy * dy' * (dx * dx') =
    split2 (qx * dy) (qy * dx) (dx' * dy') ∙ ap₂ (λ (u v : ℕ). u + v) (swap qx dy dx' dy') (swap-far qy dx dx' dy') in
    omega arith

-- a sum grows with both terms
pub add-mono : (f : Format) (x x' y y' : Float) → Finite x → Finite x' → Finite y → Finite y' → T (le x x') → T (le y y') → T (le (add f x y) (add f x' y'))
add-mono f x x' y y' p p' q q' h k =
    rounded-mono f (add f x y) (add f x' y') (plus x * den y + plus y * den x) (less x * den y + less y * den x) (den x * den y)
    (plus x' * den y' + plus y' * den x') (less x' * den y' + less y' * den x') (den x' * den y')
    (mul-pos (den_pos x) (den_pos y)) (mul-pos (den_pos x') (den_pos y')) (add-rounded f x y p q) (add-rounded f x' y' p' q')
    (add-cross (plus x) (less x) (den x) (plus x') (less x') (den x') (plus y) (less y) (den y) (plus y') (less y') (den y') (le→under x x' p p' h)
    (le→under y y' q q' k))

neg-finite : (x : Float) → Finite x → Finite (neg x)
unfolding neg
neg-finite nan p = p
neg-finite (inf s) p = p
neg-finite (fin s m e) p = tt

-- a difference grows with the first and falls with the second
pub sub-mono : (f : Format) (x x' y y' : Float) → Finite x → Finite x' → Finite y → Finite y' → T (le x x') → T (le y' y) → T (le (sub f x y) (sub f x' y'))
unfolding sub
sub-mono f x x' y y' p p' q q' h k = add-mono f x x' (neg y) (neg y') p p' (neg-finite y q) (neg-finite y' q') h (neg-anti y' y k)

-- ---- a product
mul-rounded : (f : Format) (x y : Float) → Finite x → Finite y
    → Rounded f (mul f x y) (plus x * plus y + less x * less y) (plus x * less y + less x * plus y) (den x * den y)
unfolding mul
mul-rounded f nan y p q = absurd p
mul-rounded f (inf s) y p q = absurd p
mul-rounded f (fin s m e) nan p q = absurd q
mul-rounded f (fin s m e) (inf t) p q = absurd q
mul-rounded f (fin false m e) (fin false n d) p q = (false, m * up e * (n * up d), refl, simp (mul-zero, zero-mul, add-zero, zero-add))
mul-rounded f (fin false m e) (fin true n d) p q = (true, m * up e * (n * up d), refl, simp (mul-zero, zero-mul, add-zero, zero-add))
mul-rounded f (fin true m e) (fin false n d) p q = (true, m * up e * (n * up d), refl, simp (mul-zero, zero-mul, add-zero, zero-add))
mul-rounded f (fin true m e) (fin true n d) p q = (false, m * up e * (n * up d), refl, simp (mul-zero, zero-mul, add-zero, zero-add))

mul-cross : (px qx dx px' qx' dx' py dy : ℕ) → px * dx' + qx' * dx ≤ px' * dx + qx * dx'
    → px * py * (dx' * dy) + qx' * py * (dx * dy) ≤ px' * py * (dx * dy) + qx * py * (dx' * dy)
mul-cross px qx dx px' qx' dx' py dy h =
    let a = scaled (px * dx') (qx' * dx) (px' * dx) (qx * dx') (py * dy) h in
    let m1 = swap px py dx' dy in
    let m2 = swap qx' py dx dy in
    let m3 = swap px' py dx dy in
    let m4 = swap qx py dx' dy in
    omega (arith, a, m1, m2, m3, m4)

-- a factor that is not negative, and one that is not positive; each finite value is one of the two
abbrev pub Up : Float → Type 0
Up y = less y ≡ 0

abbrev pub Down : Float → Type 0
Down y = plus y ≡ 0

pub up-or-down : (y : Float) → Finite y → Up y ⊎ Down y
up-or-down nan q = absurd q
up-or-down (inf s) q = absurd q
up-or-down (fin false m e) q = inl refl
up-or-down (fin true m e) q = inr refl

by_plus : (a b c d : ℕ) → d ≡ 0 → a * c + b * d ≡ a * c
by_plus a b c d h = ap (λ (z : ℕ). a * c + b * z) h ∙ simp (mul-zero, add-zero)

by_less : (a b c d : ℕ) → c ≡ 0 → a * c + b * d ≡ b * d
by_less a b c d h = ap (λ (z : ℕ). a * z + b * d) h ∙ simp (mul-zero, zero-add)

pub mul_mono : (f : Format) (x x' y : Float) → Finite x → Finite x' → Finite y → Up y → T (le x x') → T (le (mul f x y) (mul f x' y))
mul_mono f x x' y p p' q u h =
    rounded-mono f (mul f x y) (mul f x' y) (plus x * plus y) (less x * plus y) (den x * den y) (plus x' * plus y) (less x' * plus y) (den x' * den y)
    (mul-pos (den_pos x) (den_pos y)) (mul-pos (den_pos x') (den_pos y))
    (moved f (mul f x y) (den x * den y) (by_plus (plus x) (less x) (plus y) (less y) u) (by_less (plus x) (less x) (less y) (plus y) u)
    (mul-rounded f x y p q))
    (moved f (mul f x' y) (den x' * den y) (by_plus (plus x') (less x') (plus y) (less y) u) (by_less (plus x') (less x') (less y) (plus y) u)
    (mul-rounded f x' y p' q))
    (mul-cross (plus x) (less x) (den x) (plus x') (less x') (den x') (plus y) (den y) (le→under x x' p p' h))

pub mul-anti : (f : Format) (x x' y : Float) → Finite x → Finite x' → Finite y → Down y → T (le x x') → T (le (mul f x' y) (mul f x y))
mul-anti f x x' y p p' q u h =
    rounded-mono f (mul f x' y) (mul f x y) (less x' * less y) (plus x' * less y) (den x' * den y) (less x * less y) (plus x * less y) (den x * den y)
    (mul-pos (den_pos x') (den_pos y)) (mul-pos (den_pos x) (den_pos y))
    (moved f (mul f x' y) (den x' * den y) (by_less (plus x') (less x') (plus y) (less y) u) (by_plus (plus x') (less x') (less y) (plus y) u)
    (mul-rounded f x' y p' q))
    (moved f (mul f x y) (den x * den y) (by_less (plus x) (less x) (plus y) (less y) u) (by_plus (plus x) (less x) (less y) (plus y) u)
    (mul-rounded f x y p q))
    (omega (arith, mul-cross (plus x) (less x) (den x) (plus x') (less x') (den x') (less y) (den y) (le→under x x' p p' h)))

-- ---- a quotient by a divisor above zero
abbrev pub Positive : Float → Type 0
Positive nan = ⊥
Positive (inf s) = ⊥
Positive (fin false m e) = 0 < m
Positive (fin true m e) = ⊥

pub no_zero : {X : Type 0} (n : ℕ) (x y : X) → 0 < n → cond (eqb n 0) x y ≡ y
no_zero {X} n x y h = go (eqb n 0) (eqb→eq n 0)
  where
    go : (b : Bool) → (T b → n ≡ 0) → cond b x y ≡ y
    go true k = absurd (omega (arith, k tt))
    go false k = refl

div-rounded : (f : Format) (x y : Float) → Finite x → Positive y → Rounded f (div f x y) (plus x * den y) (less x * den y) (plus y * den x)
unfolding div
div-rounded f nan y p q = absurd p
div-rounded f (inf s) y p q = absurd p
div-rounded f (fin false m e) nan p q = absurd q
div-rounded f (fin true m e) nan p q = absurd q
div-rounded f (fin false m e) (inf t) p q = absurd q
div-rounded f (fin true m e) (inf t) p q = absurd q
div-rounded f (fin false m e) (fin true n d) p q = absurd q
div-rounded f (fin true m e) (fin true n d) p q = absurd q
div-rounded f (fin false m e) (fin false n d) p q = (false, m * up e * down d, no_zero n _ _ q, simp (zero-mul, zero-add))
div-rounded f (fin true m e) (fin false n d) p q = (true, m * up e * down d, no_zero n _ _ q, simp (zero-mul, zero-add))

positive-pos : (y : Float) → Positive y → 0 < plus y
positive-pos nan q = absurd q
positive-pos (inf s) q = absurd q
positive-pos (fin true m e) q = absurd q
positive-pos (fin false m e) q = mul-pos q (up_pos e)

div-cross : (px qx dx px' qx' dx' py dy : ℕ) → px * dx' + qx' * dx ≤ px' * dx + qx * dx'
    → px * dy * (py * dx') + qx' * dy * (py * dx) ≤ px' * dy * (py * dx) + qx * dy * (py * dx')
div-cross px qx dx px' qx' dx' py dy h =
    let a = scaled (px * dx') (qx' * dx) (px' * dx) (qx * dx') (dy * py) h in
    let m1 = swap-far px dy py dx' in
    let m2 = swap-far qx' dy py dx in
    let m3 = swap-far px' dy py dx in
    let m4 = swap-far qx dy py dx' in
    omega (arith, a, m1, m2, m3, m4)

pub div_mono : (f : Format) (x x' y : Float) → Finite x → Finite x' → Positive y → T (le x x') → T (le (div f x y) (div f x' y))
div_mono f x x' y p p' q h =
    rounded-mono f (div f x y) (div f x' y) (plus x * den y) (less x * den y) (plus y * den x) (plus x' * den y) (less x' * den y) (plus y * den x')
    (mul-pos (positive-pos y q) (den_pos x)) (mul-pos (positive-pos y q) (den_pos x')) (div-rounded f x y p q) (div-rounded f x' y p' q)
    (div-cross (plus x) (less x) (den x) (plus x') (less x') (den x') (plus y) (den y) (le→under x x' p p' h))

-- ---- a product in either order is the same to the bit, NaN and infinities included
unlike-comm : (s t : Bool) → unlike s t ≡ unlike t s
unlike-comm true true = refl
unlike-comm true false = refl
unlike-comm false true = refl
unlike-comm false false = refl

pub mul-either : (f : Format) (x y : Float) → mul f x y ≡ mul f y x
unfolding mul
mul-either f nan nan = refl
mul-either f nan (inf t) = refl
mul-either f nan (fin t n d) = refl
mul-either f (inf s) nan = refl
mul-either f (inf s) (inf t) = ap inf (unlike-comm s t)
mul-either f (inf s) (fin t n d) = ap (λ (u : Bool). cond (eqb n 0) nan (inf u)) (unlike-comm s t)
mul-either f (fin s m e) nan = refl
mul-either f (fin s m e) (inf t) = ap (λ (u : Bool). cond (eqb m 0) nan (inf u)) (unlike-comm s t)
mul-either f (fin s m e) (fin t n d) =
    ap (λ (u : Bool). round f u (m * up e * (n * up d)) (down e * down d)) (unlike-comm s t)
    ∙ ap₂ (λ (u v : ℕ). round f (unlike t s) u v) (mul_comm (m * up e) (n * up d)) (mul_comm (down e) (down d))
