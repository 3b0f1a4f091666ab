-- A number whose difference from another is not at most zero is not below it, rounded as the difference is. Assumes nothing.
use Rattle.std.specs.Prelude.{refl, Bool, true, false, not, ◌&&◌, cond, ℕ, ◌*◌, ◌-◌, T, ltb, Float}
use Rattle.std.proofs.Common.{inl, inr, mul-pos, arith}
use Rattle.std.specs.Float.{nan, inf, fin, binary64}
use Rattle.std.specs.Float.Ieee.{up, down, neg, add, sub, sum, round, units, odd, size, span, climb, of_bits, le}
use Rattle.std.specs.Float.Ieee.Fits.{down_pos}
use Rattle.floats.specs.Constants.{zero64}
use Rattle.floatlaws.specs.Fractions.{Finite}
use Rattle.floatlaws.specs.Rounding.{Rounded, rounded-mono}
use Rattle.floatlaws.specs.Monotone.{sub-mono}
use Rattle.floatlaws.specs.Order.{le_trans, lt→le, le-self, either_way}
use Rattle.floatlaws.specs.CallerLaws.{finite_number}

-- ---- a number less itself is a zero
nothing : (u : Bool) (a c : ℕ) → Rounded binary64 (round binary64 u (a - a) c) 0 0 c
nothing false a c = (false, a - a, refl, omega arith)
nothing true a c = (true, a - a, refl, omega arith)

either-nothing : (b u v : Bool) (a c : ℕ) → Rounded binary64 (cond b (round binary64 u (a - a) c) (round binary64 v (a - a) c)) 0 0 c
either-nothing true u v a c = nothing u a c
either-nothing false u v a c = nothing v a c

zero-rounded : Rounded binary64 zero64 0 0 1
unfolding round units odd size span climb of_bits
zero-rounded = (false, 0, refl, refl)

less-itself : (x : Float) → Finite x → T (le (sub binary64 x x) zero64)
unfolding sub add neg sum
less-itself nan p = absurd p
less-itself (inf s) p = absurd p
less-itself (fin false m e) p =
    let a = m * up e * down e in
    rounded-mono binary64 _ zero64 0 0 (down e * down e) 0 0 1 (mul-pos (down_pos e) (down_pos e)) (omega arith)
    (either-nothing (ltb a a) true (false && ltb a a) a (down e * down e)) zero-rounded (omega arith)
less-itself (fin true m e) p =
    let a = m * up e * down e in
    rounded-mono binary64 _ zero64 0 0 (down e * down e) 0 0 1 (mul-pos (down_pos e) (down_pos e)) (omega arith)
    (either-nothing (ltb a a) false (true && ltb a a) a (down e * down e)) zero-rounded (omega arith)

-- ---- so what has risen is not below
pub risen : (x y : Float) → Finite x → Finite y → T (not (le (sub binary64 x y) zero64)) → T (le y x)
risen x y p q h =
    elim (either_way x y (finite_number x p) (finite_number y q)) [
      | inl l ↦ absurd (neither (le (sub binary64 x y) zero64) (fallen (lt→le x y l)) h)
      | inr l ↦ l
    ]
  where
    fallen : T (le x y) → T (le (sub binary64 x y) zero64)
    fallen l = le_trans _ _ _ (sub-mono binary64 x y y y p q q q l (le-self y (finite_number y q))) (less-itself y q)

    neither : (b : Bool) → T b → T (not b) → ⊥
    neither true t n = n
    neither false t n = t
