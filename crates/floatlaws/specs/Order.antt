-- `lt` and `le` on floats: transitive, total where there is no NaN. Assumes nothing.
use Rattle.std.proofs.Common.{sym, inl, inr, le_trans as nat-le-trans, le_of_eq, add-mul, le_of_mul-le-mul_right, mul_right_comm, lt_of_mul-lt-mul_right}
use Rattle.std.proofs.Common.{mul-lt-mul_of_pos_right, mul-pos, arith, ltb→lt, lt→ltb, nltb→le}
use Rattle.std.specs.Prelude.{◌⊎◌, Bool, true, false, not, ◌&&◌, ◌||◌, ℕ, zero, suc, ◌+◌, ◌*◌, ◌≤◌, ◌<◌, T, Float}
use Rattle.std.specs.Bool.{beq}
use Rattle.std.specs.Float.{nan, inf, fin}
use Rattle.std.specs.Float.Ieee.{up, down, lt, eq, le, below, is_nan}
use Rattle.std.specs.Float.Ieee.Fits.{down_pos}
use Rattle.floatlaws.specs.Fractions.{Finite, plus, less, den, den_pos, Under, le→under, under→le}
use Rattle.floatlaws.specs.Monotone.{scaled}

-- ---- the order is transitive, NaN and infinities included
under-trans : (px qx dx py qy dy pz qz dz : ℕ) → 0 < dy → px * dy + qy * dx ≤ py * dx + qx * dy → py * dz + qz * dy ≤ pz * dy + qy * dz
    → px * dz + qz * dx ≤ pz * dx + qx * dz
under-trans px qx dx py qy dy pz qz dz D h k =
    let a = scaled (px * dy) (qy * dx) (py * dx) (qx * dy) dz h in
    let b = scaled (py * dz) (qz * dy) (pz * dy) (qy * dz) dx k in
    let m1 = mul_right_comm px dy dz in
    let m2 = mul_right_comm qy dx dz in
    let m3 = mul_right_comm py dx dz in
    let m4 = mul_right_comm qx dy dz in
    let m5 = mul_right_comm qz dy dx in
    let m6 = mul_right_comm pz dy dx in
    le_of_mul-le-mul_right (nat-le-trans (le_of_eq (add-mul (px * dz) (qz * dx) dy)) (nat-le-trans (omega (
      arith,
      a,
      b,
      m1,
      m2,
      m3,
      m4,
      m5,
      m6,
    )) (le_of_eq (sym (add-mul (pz * dx) (qx * dz) dy))))) D

pub le_trans : (x y z : Float) → T (le x y) → T (le y z) → T (le x z)
unfolding le
le_trans nan y z h k = absurd h
le_trans (inf s) nan z h k = absurd h
le_trans (inf s) (inf t) nan h k = absurd k
le_trans (inf true) (inf t) (inf true) h k = tt
le_trans (inf true) (inf t) (inf false) h k = tt
le_trans (inf false) (inf true) (inf u) h k = absurd h
le_trans (inf false) (inf false) (inf u) h k = k
le_trans (inf true) (inf t) (fin u l f) h k = tt
le_trans (inf false) (inf true) (fin u l f) h k = absurd h
le_trans (inf false) (inf false) (fin u l f) h k = k
le_trans (inf s) (fin t n d) nan h k = absurd k
le_trans (inf true) (fin t n d) (inf u) h k = sign u k
  where
    sign : (u : Bool) → T (not u || false) → T ((true && not u) || beq true u)
    sign true k = tt
    sign false k = tt
le_trans (inf false) (fin t n d) (inf u) h k = absurd h
le_trans (inf true) (fin t n d) (fin u l f) h k = tt
le_trans (inf false) (fin t n d) (fin u l f) h k = absurd h
le_trans (fin s m e) nan z h k = absurd h
le_trans (fin s m e) (inf t) nan h k = absurd k
le_trans (fin s m e) (inf true) (inf u) h k = absurd h
le_trans (fin s m e) (inf false) (inf true) h k = absurd k
le_trans (fin s m e) (inf false) (inf false) h k = tt
le_trans (fin s m e) (inf true) (fin u l f) h k = absurd h
le_trans (fin s m e) (inf false) (fin u l f) h k = absurd k
le_trans (fin s m e) (fin t n d) nan h k = absurd k
le_trans (fin s m e) (fin t n d) (inf u) h k = k
le_trans (fin s m e) (fin t n d) (fin u l f) h k =
    let x = fin s m e in
    let y = fin t n d in
    let z = fin u l f in
    under→le x z tt tt (under-trans (plus x) (less x) (den x) (plus y) (less y) (den y) (plus z) (less z) (den z) (den_pos y) (le→under x y tt tt h)
    (le→under y z tt tt k))

-- ---- the strict order is transitive
cross : (a b c p q r : ℕ) → 0 < p → 0 < r → a * q < b * p → b * r < c * q → a * r < c * p
cross a b c p q r hp hr h k = lt_of_mul-lt-mul_right q (omega (arith, mul-lt-mul_of_pos_right h hr, mul-lt-mul_of_pos_right k hp))

-- a product that is above something has a factor above 0
above : (x c q p : ℕ) → x < c * q → 0 < p → 0 < c * p
above x zero q p h hp = absurd (omega arith)
above x (suc c) q p h hp = mul-pos (omega arith) hp

below-trans : (s t u : Bool) (a b c p q r : ℕ) → 0 < p → 0 < r → T (below s (a * q) t (b * p)) → T (below t (b * r) u (c * q)) → T (below s (a * r) u (c * p))
below-trans false false false a b c p q r hp hr h k = lt→ltb _ _ (cross a b c p q r hp hr (ltb→lt _ _ h) (ltb→lt _ _ k))
below-trans false false true a b c p q r hp hr h k = k
below-trans false true false a b c p q r hp hr h k = absurd h
below-trans false true true a b c p q r hp hr h k = absurd h
below-trans true false false a b c p q r hp hr h k = lt→ltb 0 (a * r + c * p) (omega (arith, above (b * r) c q p (ltb→lt _ _ k) hp))
below-trans true false true a b c p q r hp hr h k = absurd k
below-trans true true false a b c p q r hp hr h k = lt→ltb 0 (a * r + c * p) (omega (arith, above (b * p) a q r (ltb→lt _ _ h) hr))
below-trans true true true a b c p q r hp hr h k = lt→ltb _ _ (cross c b a r q p hr hp (ltb→lt _ _ k) (ltb→lt _ _ h))

pub lt_trans : (x y z : Float) → T (lt x y) → T (lt y z) → T (lt x z)
unfolding lt
lt_trans nan y z h k = absurd h
lt_trans (inf s) nan z h k = absurd h
lt_trans (inf s) (inf t) nan h k = absurd k
lt_trans (inf true) (inf true) (inf u) h k = absurd h
lt_trans (inf true) (inf false) (inf u) h k = absurd k
lt_trans (inf false) (inf t) (inf u) h k = absurd h
lt_trans (inf true) (inf t) (fin u l f) h k = tt
lt_trans (inf false) (inf t) (fin u l f) h k = absurd h
lt_trans (inf s) (fin t n d) nan h k = absurd k
lt_trans (inf true) (fin t n d) (inf u) h k = k
lt_trans (inf false) (fin t n d) (inf u) h k = absurd h
lt_trans (inf s) (fin t n d) (fin u l f) h k = h
lt_trans (fin s m e) nan z h k = absurd h
lt_trans (fin s m e) (inf t) nan h k = absurd k
lt_trans (fin s m e) (inf true) (inf u) h k = absurd h
lt_trans (fin s m e) (inf false) (inf u) h k = absurd k
lt_trans (fin s m e) (inf true) (fin u l f) h k = absurd h
lt_trans (fin s m e) (inf false) (fin u l f) h k = absurd k
lt_trans (fin s m e) (fin t n d) nan h k = absurd k
lt_trans (fin s m e) (fin t n d) (inf u) h k = k
lt_trans (fin s m e) (fin t n d) (fin u l f) h k = below-trans s t u (m * up e) (n * up d) (l * up f) (down e) (down d) (down f) (down_pos e) (down_pos f) h k

-- ---- weak and strict, without NaN
abbrev pub Number : Float → Type 0
Number x = T (not (is_nan x))

pub lt→le : (x y : Float) → T (lt x y) → T (le x y)
unfolding le
lt→le x y t = go (lt x y) (eq x y) t
  where
    go : (a b : Bool) → T a → T (a || b)
    go true b t = tt
    go false b t = elim t [ ]

pub le-numbers : (x y : Float) → T (le x y) → Number x × Number y
unfolding le is_nan
le-numbers nan y t = absurd t
le-numbers (inf s) nan t = absurd t
le-numbers (inf s) (inf t) h = (tt, tt)
le-numbers (inf s) (fin t n d) h = (tt, tt)
le-numbers (fin s m e) nan t = absurd t
le-numbers (fin s m e) (inf t) h = (tt, tt)
le-numbers (fin s m e) (fin t n d) h = (tt, tt)

-- of two numbers, where one is not below the other, the other is at most it
pub not-lt→le : (x y : Float) → Number x → Number y → T (not (lt x y)) → T (le y x)
unfolding lt le is_nan
not-lt→le nan y p q n = absurd p
not-lt→le (inf s) nan p q n = absurd q
not-lt→le (inf true) (inf true) p q n = tt
not-lt→le (inf true) (inf false) p q n = absurd n
not-lt→le (inf false) (inf true) p q n = tt
not-lt→le (inf false) (inf false) p q n = tt
not-lt→le (inf true) (fin t k d) p q n = absurd n
not-lt→le (inf false) (fin t k d) p q n = tt
not-lt→le (fin s m e) nan p q n = absurd q
not-lt→le (fin s m e) (inf true) p q n = tt
not-lt→le (fin s m e) (inf false) p q n = absurd n
not-lt→le (fin s m e) (fin t k d) p q n = under→le (fin t k d) (fin s m e) tt tt (go s t n)
  where
    go : (s t : Bool) → T (not (lt (fin s m e) (fin t k d))) → Under (fin t k d) (fin s m e)
    go false false n = omega (arith, nltb→le (m * up e * down d) (k * up d * down e) n)
    go false true n = omega arith
    go true false n = omega (arith, nltb→le 0 (m * up e * down d + k * up d * down e) n)
    go true true n = omega (arith, nltb→le (k * up d * down e) (m * up e * down d) n)

pub either_way : (x y : Float) → Number x → Number y → T (lt x y) ⊎ T (le y x)
either_way x y p q = go (lt x y) (not-lt→le x y p q)
  where
    go : (b : Bool) → (T (not b) → T (le y x)) → T b ⊎ T (le y x)
    go true h = inl tt
    go false h = inr (h tt)

pub le-self : (x : Float) → Number x → T (le x x)
unfolding lt is_nan
le-self nan p = absurd p
le-self (inf true) p = not-lt→le (inf true) (inf true) tt tt tt
le-self (inf false) p = not-lt→le (inf false) (inf false) tt tt tt
le-self (fin s m e) p = under→le (fin s m e) (fin s m e) tt tt (omega arith)

-- nothing is at most what is below it
pub lt_not_le : (x y : Float) → T (lt x y) → T (le y x) → ⊥
unfolding lt le
lt_not_le nan y h k = h
lt_not_le (inf s) nan h k = h
lt_not_le (inf true) (inf true) h k = h
lt_not_le (inf true) (inf false) h k = k
lt_not_le (inf false) (inf t) h k = h
lt_not_le (inf true) (fin t n d) h k = k
lt_not_le (inf false) (fin t n d) h k = h
lt_not_le (fin s m e) nan h k = h
lt_not_le (fin s m e) (inf true) h k = h
lt_not_le (fin s m e) (inf false) h k = k
lt_not_le (fin s m e) (fin t n d) h k = go s t h (le→under (fin t n d) (fin s m e) tt tt k)
  where
    go : (s t : Bool) → T (lt (fin s m e) (fin t n d)) → Under (fin t n d) (fin s m e) → ⊥
    go false false h u = omega (arith, ltb→lt (m * up e * down d) (n * up d * down e) h)
    go false true h u = h
    go true false h u = omega (arith, ltb→lt 0 (m * up e * down d + n * up d * down e) h)
    go true true h u = omega (arith, ltb→lt (n * up d * down e) (m * up e * down d) h)

pub lt-le-trans : (x y z : Float) → T (lt x y) → T (le y z) → T (lt x z)
lt-le-trans x y z h k = go (either_way x z (le-numbers x y (lt→le x y h)).0 (le-numbers y z k).1)
  where
    go : T (lt x z) ⊎ T (le z x) → T (lt x z)
    go (inl l) = l
    go (inr l) = absurd (lt_not_le x y h (le_trans y z x k l))

-- ---- what lies between two finite values is finite
pub finite-between : (a x b : Float) → Finite a → Finite b → T (le a x) → T (le x b) → Finite x
unfolding le
finite-between nan x b p q h k = absurd p
finite-between (inf s) x b p q h k = absurd p
finite-between (fin s m e) nan b p q h k = absurd h
finite-between (fin s m e) (inf true) b p q h k = absurd h
finite-between (fin s m e) (inf false) nan p q h k = absurd q
finite-between (fin s m e) (inf false) (inf t) p q h k = absurd q
finite-between (fin s m e) (inf false) (fin t n d) p q h k = absurd k
finite-between (fin s m e) (fin t n d) b p q h k = tt
