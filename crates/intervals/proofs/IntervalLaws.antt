-- What lies between the ends of intervals, worked with as the trace does, lies between the ends of what the intervals come to. Assumes nothing.
use Rattle.std.specs.Prelude.{◌≡◌, refl, ◌⊎◌, Bool, true, false, not, cond, ◌*◌, T, eqb, Float}
use Rattle.std.proofs.Common.{ap, ◌∙◌, inl, inr}
use Rattle.std.specs.Float.{nan, inf, fin, binary64}
use Rattle.std.specs.Float.Ieee.{add, sub, mul, div, lt, le, up, down, unlike}
use Rattle.std.specs.Float.Ieee.Fits.{and_l, and_r}
use Rattle.floats.specs.Basic.{finite_of}
use Rattle.floatlaws.specs.Fractions.{Finite}
use Rattle.floatlaws.specs.Order.{Number, le_trans, lt→le, not-lt→le, lt_not_le, le-self, finite-between}
use Rattle.floatlaws.specs.Monotone.{add-mono, sub-mono, up-or-down, mul_mono, mul-anti, Positive, div_mono, mul-either}
use Rattle.floatlaws.specs.CallerLaws.{finite-test, finite_number, round_number}
use Rattle.intervals.specs.Interval.{Between, exactly, lesser, greater, times, plus, minus, over, crossed, ends_finite}
use Rattle.intervals.specs.declared.types.Interval.{Interval}

pub record Bounds (a : Interval) : Type 0 where
  pub low : Finite a.low
  pub high : Finite a.high

pub bounds : (a : Interval) → T (ends_finite a) → Bounds a
unfolding ends_finite
bounds a t = record {
  low = finite-test a.low (and_l (finite_of a.low) (finite_of a.high) t);
  high = finite-test a.high (and_r (finite_of a.low) (finite_of a.high) t);
}

held-finite : (a : Interval) (x : Float) → Bounds a → Between a x → Finite x
held-finite a x b h = finite-between a.low x a.high b.low b.high h.above h.below

pub exactly-holds : (x : Float) → Finite x → Between (exactly x) x
exactly-holds x p = record { above = le-self x (finite_number x p); below = le-self x (finite_number x p) }

pub exactly-bounds : (x : Float) → Finite x → Bounds (exactly x)
exactly-bounds x p = record { low = p; high = p }

-- ---- crossed limits hold no number; such as are finite and not crossed hold their own ends
pub crossed-empty : (a : Interval) → T (crossed a) → (x : Float) → Between a x → ⊥
crossed-empty a t x h = lt_not_le a.high a.low t (le_trans a.low x a.high h.above h.below)

pub uncrossed-holds : (a : Interval) → T (ends_finite a) → T (not (crossed a)) → Between a a.low
uncrossed-holds a f t =
    let b = bounds a f in
    let L = finite_number a.low b.low in
    record { above = le-self a.low L; below = not-lt→le a.high a.low (finite_number a.high b.high) L t }

-- ---- the lesser and the greater of two numbers
lesser-l : (a b : Float) → Number a → T (le (lesser a b) a)
unfolding lesser
lesser-l a b p = go (lt b a) (lt→le b a)
  where
    go : (x : Bool) → (T x → T (le b a)) → T (le (cond x b a) a)
    go true h = h tt
    go false h = le-self a p

lesser-r : (a b : Float) → Number a → Number b → T (le (lesser a b) b)
unfolding lesser
lesser-r a b p q = go (lt b a) (not-lt→le b a q p)
  where
    go : (x : Bool) → (T (not x) → T (le a b)) → T (le (cond x b a) b)
    go true h = le-self b q
    go false h = h tt

greater-l : (a b : Float) → Number a → T (le a (greater a b))
unfolding greater
greater-l a b p = go (lt a b) (lt→le a b)
  where
    go : (x : Bool) → (T x → T (le a b)) → T (le a (cond x b a))
    go true h = h tt
    go false h = le-self a p

greater-r : (a b : Float) → Number a → Number b → T (le b (greater a b))
unfolding greater
greater-r a b p q = go (lt a b) (not-lt→le a b p q)
  where
    go : (x : Bool) → (T (not x) → T (le b a)) → T (le b (cond x b a))
    go true h = le-self b q
    go false h = h tt

cond-number : (x : Bool) (a b : Float) → Number a → Number b → Number (cond x b a)
cond-number true a b p q = q
cond-number false a b p q = p

lesser-number : (a b : Float) → Number a → Number b → Number (lesser a b)
unfolding lesser
lesser-number a b p q = cond-number (lt b a) a b p q

greater-number : (a b : Float) → Number a → Number b → Number (greater a b)
unfolding greater
greater-number a b p q = cond-number (lt a b) a b p q

-- ---- of four numbers: the least is at most each, the greatest at least each
module _ (p q r s : Float) (P : Number p) (Q : Number q) (R : Number r) (S : Number s) where
  abbrev least : Float
  least = lesser (lesser (lesser p q) r) s

  abbrev greatest : Float
  greatest = greater (greater (greater p q) r) s

  L₁ : Number (lesser p q)
  L₁ = lesser-number p q P Q

  L₂ : Number (lesser (lesser p q) r)
  L₂ = lesser-number (lesser p q) r L₁ R

  G₁ : Number (greater p q)
  G₁ = greater-number p q P Q

  G₂ : Number (greater (greater p q) r)
  G₂ = greater-number (greater p q) r G₁ R

  least-2 : T (le least (lesser p q))
  least-2 = le_trans least (lesser (lesser p q) r) (lesser p q) (lesser-l (lesser (lesser p q) r) s L₂) (lesser-l (lesser p q) r L₁)

  greatest-2 : T (le (greater p q) greatest)
  greatest-2 = le_trans (greater p q) (greater (greater p q) r) greatest (greater-l (greater p q) r G₁) (greater-l (greater (greater p q) r) s G₂)

  least-p : T (le least p)
  least-p = le_trans least (lesser p q) p least-2 (lesser-l p q P)

  least-q : T (le least q)
  least-q = le_trans least (lesser p q) q least-2 (lesser-r p q P Q)

  least-r : T (le least r)
  least-r = le_trans least (lesser (lesser p q) r) r (lesser-l (lesser (lesser p q) r) s L₂) (lesser-r (lesser p q) r L₁ R)

  least-s : T (le least s)
  least-s = lesser-r (lesser (lesser p q) r) s L₂ S

  greatest-p : T (le p greatest)
  greatest-p = le_trans p (greater p q) greatest (greater-l p q P) greatest-2

  greatest-q : T (le q greatest)
  greatest-q = le_trans q (greater p q) greatest (greater-r p q P Q) greatest-2

  greatest-r : T (le r greatest)
  greatest-r = le_trans r (greater (greater p q) r) greatest (greater-r (greater p q) r G₁ R) (greater-l (greater (greater p q) r) s G₂)

  greatest-s : T (le s greatest)
  greatest-s = greater-r (greater (greater p q) r) s G₂ S

product-number : (x y : Float) → Finite x → Finite y → Number (mul binary64 x y)
unfolding mul
product-number nan y p q = absurd p
product-number (inf s) y p q = absurd p
product-number (fin s m e) nan p q = absurd q
product-number (fin s m e) (inf t) p q = absurd q
product-number (fin s m e) (fin t n d) p q = round_number binary64 (unlike s t) (m * up e * (n * up d)) (down e * down d)

module _ (a b : Interval) (x y : Float) (A : Bounds a) (B : Bounds b) (hx : Between a x) (hy : Between b y) where
  X : Finite x
  X = held-finite a x A hx

  Y : Finite y
  Y = held-finite b y B hy

  -- ---- a product
  abbrev p : Float
  p = mul binary64 a.low b.low

  abbrev q : Float
  q = mul binary64 a.low b.high

  abbrev r : Float
  r = mul binary64 a.high b.low

  abbrev s : Float
  s = mul binary64 a.high b.high

  abbrev xy : Float
  xy = mul binary64 x y

  P : Number (mul binary64 a.low b.low)
  P = product-number a.low b.low A.low B.low

  Q : Number (mul binary64 a.low b.high)
  Q = product-number a.low b.high A.low B.high

  R : Number (mul binary64 a.high b.low)
  R = product-number a.high b.low A.high B.low

  S : Number (mul binary64 a.high b.high)
  S = product-number a.high b.high A.high B.high

  -- the first factor at z: the product lies below one of two, and above one of two
  upper-at : (z : Float) → Finite z → T (le (mul binary64 z y) (mul binary64 z b.high)) ⊎ T (le (mul binary64 z y) (mul binary64 z b.low))
  upper-at z Z = elim (up-or-down z Z) [
    | inl u ↦ inl (rw (mul-either binary64 z y, mul-either binary64 z b.high) (mul_mono binary64 y b.high z Y B.high Z u hy.below))
    | inr v ↦ inr (rw (mul-either binary64 z y, mul-either binary64 z b.low) (mul-anti binary64 b.low y z B.low Y Z v hy.above))
  ]

  lower-at : (z : Float) → Finite z → T (le (mul binary64 z b.low) (mul binary64 z y)) ⊎ T (le (mul binary64 z b.high) (mul binary64 z y))
  lower-at z Z = elim (up-or-down z Z) [
    | inl u ↦ inl (rw (mul-either binary64 z y, mul-either binary64 z b.low) (mul_mono binary64 b.low y z B.low Y Z u hy.above))
    | inr v ↦ inr (rw (mul-either binary64 z y, mul-either binary64 z b.high) (mul-anti binary64 y b.high z Y B.high Z v hy.below))
  ]

  -- the product lies below one of the four, through the first factor at an end
  top : (w z : Float) → T (le xy w) → T (le w z) → T (le z (times a b).high) → T (le xy (times a b).high)
  top w z g t h = le_trans xy w _ g (le_trans w z _ t h)

  bottom : (w z : Float) → T (le w xy) → T (le z w) → T (le (times a b).low z) → T (le (times a b).low xy)
  bottom w z g t h = le_trans _ w xy (le_trans _ z w h t) g

  below-greatest : T (le xy (times a b).high)
  below-greatest = elim (up-or-down y Y) [
    | inl u ↦
        let g = mul_mono binary64 x a.high y X A.high Y u hx.below in
        elim (upper-at a.high A.high) [
          | inl t ↦ top (mul binary64 a.high y) s g t (greatest-s p q r s P Q R S)
          | inr t ↦ top (mul binary64 a.high y)
              r g t (greatest-r p q r s P Q R S)
        ]
    | inr v ↦
        let g = mul-anti binary64 a.low x y A.low X Y v hx.above in
        elim (upper-at a.low A.low) [
          | inl t ↦ top (mul binary64 a.low y) q g t (greatest-q p q r s P Q R S)
          | inr t ↦ top (mul binary64 a.low y) p g
              t (greatest-p p q r s P Q R S)
        ]
  ]

  above-least : T (le (times a b).low xy)
  above-least = elim (up-or-down y Y) [
    | inl u ↦
        let g = mul_mono binary64 a.low x y A.low X Y u hx.above in
        elim (lower-at a.low A.low) [
          | inl t ↦ bottom (mul binary64 a.low y) p g t (least-p p q r s P Q R S)
          | inr t ↦ bottom (mul binary64 a.low y)
              q g t (least-q p q r s P Q R S)
        ]
    | inr v ↦
        let g = mul-anti binary64 x a.high y X A.high Y v hx.below in
        elim (lower-at a.high A.high) [
          | inl t ↦ bottom (mul binary64 a.high y) r g t (least-r p q r s P Q R S)
          | inr t ↦ bottom
              (mul binary64 a.high y) s g t (least-s p q r s P Q R S)
        ]
  ]

  pub times-holds : Between (times a b) (mul binary64 x y)
  times-holds = record { above = above-least; below = below-greatest }

  -- ---- a sum and a difference
  pub plus-holds : Between (plus a b) (add binary64 x y)
  plus-holds = record {
    above = add-mono binary64 a.low x b.low y A.low X B.low Y hx.above hy.above;
    below = add-mono binary64 x a.high y b.high X A.high Y B.high hx.below hy.below;
  }

  pub minus-holds : Between (minus a b) (sub binary64 x y)
  minus-holds = record {
    above = sub-mono binary64 a.low x b.high y A.low X B.high Y hx.above hy.below;
    below = sub-mono binary64 x a.high y b.low X A.high Y B.low hx.below hy.above;
  }

-- ---- a quotient
pub over-holds : (a : Interval) (n x : Float) → Bounds a → Positive n → Between a x → Between (over a n) (div binary64 x n)
over-holds a n x A N h =
    let X = held-finite a x A h in
    record { above = div_mono binary64 a.low x n A.low X N h.above; below = div_mono binary64 x a.high n X A.high N h.below }

-- ---- known numbers: "Limits equal to the nominal give the nominal trace on both ends", to the bit
either : (b : Bool) (x : Float) → cond b x x ≡ x
either true x = refl
either false x = refl

lesser-same : (x : Float) → lesser x x ≡ x
unfolding lesser
lesser-same x = either (lt x x) x

greater-same : (x : Float) → greater x x ≡ x
unfolding greater
greater-same x = either (lt x x) x

pub times-exactly : (x y : Float) → times (exactly x) (exactly y) ≡ exactly (mul binary64 x y)
times-exactly x y = λ i. record {
  low = (ap (λ (z : Float). lesser (lesser z p) p) (lesser-same p) ∙ ap (λ (z : Float). lesser z p) (lesser-same p) ∙ lesser-same p) i;
  high = (ap (λ (z : Float). greater (greater z p) p) (greater-same p) ∙ ap (λ (z : Float). greater z p) (greater-same p) ∙ greater-same p) i;
}
  where
    p : Float
    p = mul binary64 x y

-- ---- where a product by a known number has finite ends, that number is finite
other : (b : Bool) (x : Bool) → Finite (cond b nan (inf x)) → ⊥
other true x h = h
other false x h = h

right-finite : (x y : Float) → Finite (mul binary64 x y) → Finite y
unfolding mul
right-finite nan y h = absurd h
right-finite (inf s) nan h = absurd h
right-finite (inf s) (inf t) h = absurd h
right-finite (inf s) (fin t n d) h = tt
right-finite (fin s m e) nan h = absurd h
right-finite (fin s m e) (inf t) h = absurd (other (eqb m 0) (unlike s t) h)
right-finite (fin s m e) (fin t n d) h = tt

one_of : {C : Type 0} (a b : Float) → (Finite a → C) → (Finite b → C) → Finite (lesser a b) → C
unfolding lesser
one_of {C} a b f g = go (lt b a)
  where
    go : (x : Bool) → Finite (cond x b a) → C
    go true h = g h
    go false h = f h

pub factor-finite : (a : Interval) (y : Float) → Bounds (times a (exactly y)) → Finite y
factor-finite a y h =
    let low = right-finite a.low y in
    let high = right-finite a.high y in
    one_of _ _ (one_of _ _ (one_of _ _ low low) high) high h.low
