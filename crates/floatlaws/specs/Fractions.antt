-- Finite floats as fractions of whole numbers, and `le` as the order of the fractions. Assumes nothing.
use Rattle.std.specs.Prelude.{◌≡◌, ◌⊎◌, ℕ, zero, suc, ◌+◌, ◌*◌, ◌≤◌, ◌<◌, Bool, true, false, ◌&&◌, ◌||◌, T, ltb, eqb, Float}
use Rattle.std.proofs.Common.{sym, ◌∙◌, inl, inr, le_of_eq, le_of_lt, eq-or-lt_of_le, arith, ltb→lt, lt→ltb, eqb→eq}
use Rattle.std.proofs.Math.Dec.{eqb_refl}
use Rattle.std.specs.Float.{nan, inf, fin}
use Rattle.std.specs.Float.Ieee.{up, down, le}
use Rattle.std.specs.Float.Ieee.Fits.{down_pos, eq→eqb, and_i, and_l, and_r}

-- ---- finite values as (plus - minus) / den
abbrev pub Finite : Float → Type 0
Finite nan = ⊥
Finite (inf s) = ⊥
Finite (fin s m e) = Unit

abbrev pub plus : Float → ℕ
plus nan = 0
plus (inf s) = 0
plus (fin false m e) = m * up e
plus (fin true m e) = 0

abbrev pub less : Float → ℕ
less nan = 0
less (inf s) = 0
less (fin false m e) = 0
less (fin true m e) = m * up e

abbrev pub den : Float → ℕ
den nan = 1
den (inf s) = 1
den (fin s m e) = down e

pub den_pos : (x : Float) → 0 < den x
den_pos nan = omega arith
den_pos (inf s) = omega arith
den_pos (fin s m e) = down_pos e

-- the fractions' order, over naturals
abbrev pub Under : Float → Float → Type 0
Under x y = plus x * den y + less y * den x ≤ plus y * den x + less x * den y

-- ---- booleans
or_split : (a b : Bool) → T (a || b) → T a ⊎ T b
or_split true b t = inl tt
or_split false b t = inr t

or_l : (a b : Bool) → T a → T (a || b)
or_l true b t = tt
or_l false b t = elim t [ ]

or_r : (a b : Bool) → T b → T (a || b)
or_r true b t = tt
or_r false b t = t

-- ---- the order of magnitudes
le_of : (a b : ℕ) → T (ltb a b || (eqb a b && true)) → a ≤ b
le_of a b t = elim (or_split (ltb a b) (eqb a b && true) t) [ inl u ↦ le_of_lt (ltb→lt a b u) | inr u ↦ le_of_eq (eqb→eq a b (and_l (eqb a b) true u)) ]

of_le : (a b : ℕ) → a ≤ b → T (ltb a b || (eqb a b && true))
of_le a b h =
    elim (eq-or-lt_of_le h) [
      | inl p ↦ or_r (ltb a b) (eqb a b && true) (and_i (eqb a b) true (eq→eqb p) tt)
      | inr q ↦ or_l (ltb a b) (eqb a b
          && true) (lt→ltb a b q)
    ]

le-of-neg : (a b : ℕ) → T (ltb b a || (eqb a b && true)) → b ≤ a
le-of-neg a b t =
    elim (or_split (ltb b a) (eqb a b && true) t) [ inl u ↦ le_of_lt (ltb→lt b a u) | inr u ↦ le_of_eq (sym (eqb→eq a b (and_l (eqb a b) true u))) ]

of-le-neg : (a b : ℕ) → b ≤ a → T (ltb b a || (eqb a b && true))
of-le-neg a b h =
    elim (eq-or-lt_of_le h) [
      | inl p ↦ or_r (ltb b a) (eqb a b && true) (and_i (eqb a b) true (eq→eqb (sym p)) tt)
      | inr q ↦ or_l (ltb b a) (eqb a b
          && true) (lt→ltb b a q)
    ]

pub both_zero : (a b : ℕ) → T (eqb a b && eqb a 0) → (a ≡ 0) × (b ≡ 0)
both_zero a b t =
    let p = eqb→eq a b (and_l (eqb a b) (eqb a 0) t) in
    let q = eqb→eq a 0 (and_r (eqb a b) (eqb a 0) t) in
    (q, sym p ∙ q)

pub across : (a b : ℕ) → T (ltb 0 (a + b) || (eqb a b && eqb a 0))
across zero zero = or_r (ltb 0 (0 + 0)) (eqb 0 0 && eqb 0 0) (and_i (eqb 0 0) (eqb 0 0) (eqb_refl 0) (eqb_refl 0))
across zero (suc b) = or_l (ltb 0 (0 + suc b)) (eqb 0 (suc b) && eqb 0 0) (lt→ltb 0 (0 + suc b) (omega arith))
across (suc a) b = or_l (ltb 0 (suc a + b)) (eqb (suc a) b && eqb (suc a) 0) (lt→ltb 0 (suc a + b) (omega arith))

-- ---- `le` of finite values is the fractions' order
padded : (a b p q : ℕ) → a ≤ b → a + 0 * p ≤ b + 0 * q
padded a b p q h = omega arith

padded-l : (a b p q : ℕ) → a ≤ b → 0 * p + a ≤ 0 * q + b
padded-l a b p q h = omega arith

stripped : (a b p q : ℕ) → a + 0 * p ≤ b + 0 * q → a ≤ b
stripped a b p q h = omega arith

stripped-l : (a b p q : ℕ) → 0 * p + a ≤ 0 * q + b → a ≤ b
stripped-l a b p q h = omega arith

nothing : (a b p q : ℕ) → 0 * p + 0 * q ≤ a + b
nothing a b p q = omega arith

nil : (a b p q : ℕ) → a ≡ 0 → b ≡ 0 → a + b ≤ 0 * p + 0 * q
nil a b p q h k = omega arith

is-nil : (a b p q : ℕ) → a + b ≤ 0 * p + 0 * q → a ≡ 0
is-nil a b p q h = omega arith

is-nil-r : (a b p q : ℕ) → a + b ≤ 0 * p + 0 * q → b ≡ 0
is-nil-r a b p q h = omega arith

pub le→under : (x y : Float) → Finite x → Finite y → T (le x y) → Under x y
unfolding le
le→under nan y p q t = absurd p
le→under (inf s) y p q t = absurd p
le→under (fin s m e) nan p q t = absurd q
le→under (fin s m e) (inf r) p q t = absurd q
le→under (fin false m e) (fin false n d) p q t =
    padded (m * up e * down d) (n * up d * down e) (down e) (down d) (le_of (m * up e * down d) (n * up d * down e) t)
le→under (fin false m e) (fin true n d) p q t =
    let z = both_zero (m * up e * down d) (n * up d * down e) t in
    nil (m * up e * down d) (n * up d * down e) (down e) (down d) z.0 z.1
le→under (fin true m e) (fin false n d) p q t = nothing (n * up d * down e) (m * up e * down d) (down d) (down e)
le→under (fin true m e) (fin true n d) p q t =
    padded-l (n * up d * down e) (m * up e * down d) (down d) (down e) (le-of-neg (m * up e * down d) (n * up d * down e) t)

pub under→le : (x y : Float) → Finite x → Finite y → Under x y → T (le x y)
unfolding le
under→le nan y p q t = absurd p
under→le (inf s) y p q t = absurd p
under→le (fin s m e) nan p q t = absurd q
under→le (fin s m e) (inf r) p q t = absurd q
under→le (fin false m e) (fin false n d) p q t =
    of_le (m * up e * down d) (n * up d * down e) (stripped (m * up e * down d) (n * up d * down e) (down e) (down d) t)
under→le (fin false m e) (fin true n d) p q t =
    let a = is-nil (m * up e * down d) (n * up d * down e) (down e) (down d) t in
    let b = is-nil-r (m * up e * down d) (n * up d * down e) (down e) (down d) t in
    and_i (eqb (m * up e * down d) (n * up d * down e)) (eqb (m * up e * down d) 0) (eq→eqb (a ∙ sym b)) (eq→eqb a)
under→le (fin true m e) (fin false n d) p q t = across (m * up e * down d) (n * up d * down e)
under→le (fin true m e) (fin true n d) p q t =
    of-le-neg (m * up e * down d) (n * up d * down e) (stripped-l (n * up d * down e) (m * up e * down d) (down d) (down e) t)
