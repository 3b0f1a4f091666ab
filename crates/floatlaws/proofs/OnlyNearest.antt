-- The nearest is one: of two unlike ones each would be nearer than the other. Assumes nothing.
use Rattle.std.specs.Prelude.{◌≡◌, ℕ, ◌+◌, ◌-◌, ◌*◌, ◌/◌, ◌^◌, ◌≤◌, ◌<◌, true, false, ℤ, T, ltb, Float}
use Rattle.std.proofs.Common.{sym, ap, ◌∙◌, subst, le_antisymm, lt_irrefl, lt_trans, add_comm, mul_comm, mul_right_comm, nltb→le}
use Rattle.std.proofs.Math.Dec.{not_T}
use Rattle.std.specs.Float.{nan, inf, fin, binary64}
use Rattle.std.specs.Float.Ieee.{up, down, size, lt, of_bits, to_bits}
use Rattle.std.specs.Float.Ieee.Bits.{of_bits-to_bits}
use Rattle.std.specs.Float.Ieee.Fits.{down_pos}
use Rattle.std.specs.Float.Ieee.Nearest.{div_same}
use Rattle.std.specs.Float.Ieee.Positive.{num, den}
use Rattle.floatlaws.specs.Nearest.{Nearest, unsigned, together, both}

-- two that fit and are one number are written alike
same_bits : (m n : ℕ) (e d : ℤ) → m * up e * down d ≡ n * up d * down e → to_bits binary64 (fin false m e) ≡ to_bits binary64 (fin false n d)
unfolding to_bits
same_bits m n e d h =
    ap (λ (u : ℕ). 0 + (size u - 53) * 2 ^ 52 + u / 2 ^ (size u - 53))
    (div_same (m * up e * 2 ^ 1074) (down e) (n * up d * 2 ^ 1074) (down d) (down_pos e) (down_pos d)
    (mul_right_comm (m * up e) (2 ^ 1074) (down d) ∙ ap (λ (u : ℕ). u * 2 ^ 1074) h ∙ mul_right_comm (n * up d) (down e) (2 ^ 1074)))

-- r below s: the root lies below their midpoint for the one, above it for the other
not-below : (x r s : Float) → Nearest x r → Nearest x s → T (unsigned r) → T (unsigned s) → T (lt r s) → ⊥
not-below x r s p q u v h =
    let sum : together s r ≡ together r s = ap (λ (n : ℕ). n * n) (add_comm (num s * den r) (num r * den s)) in
    let dens : both s r ≡ both r s = ap (λ (n : ℕ). n * n) (mul_comm (den s) (den r)) in
    let a : 4 * num x * both r s < together r s * den x = p.above s q.fitting v h in
    let b : together s r * den x < 4 * num x * both s r = q.below r p.fitting u h in
    let c : together s r * den x < 4 * num x * both r s = subst (λ (n : ℕ). together s r * den x < 4 * num x * n) dens b in
    lt_irrefl (4 * num x * both r s) (lt_trans a (subst (λ (n : ℕ). n * den x < 4 * num x * both r s) sum c))

-- the value nearest to a root, where there is one, is one
pub only-nearest : (x r s : Float) → Nearest x r → Nearest x s → r ≡ s
unfolding lt
only-nearest x nan s p q = absurd p.above_zero
only-nearest x (inf t) s p q = absurd p.above_zero
only-nearest x (fin true m e) s p q = absurd p.above_zero
only-nearest x (fin false m e) nan p q = absurd q.above_zero
only-nearest x (fin false m e) (inf t) p q = absurd q.above_zero
only-nearest x (fin false m e) (fin true n d) p q = absurd q.above_zero
only-nearest x (fin false m e) (fin false n d) p q =
    let r : Float = fin false m e in
    let s : Float = fin false n d in
    let a : m * up e * down d ≤ n * up d * down e = not-less (n * up d * down e) (m * up e * down d) (not-below x s r q p tt tt) in
    let b : n * up d * down e ≤ m * up e * down d = not-less (m * up e * down d) (n * up d * down e) (not-below x r s p q tt tt) in
    sym (of_bits-to_bits binary64 r p.fitting) ∙ ap (of_bits binary64) (same_bits m n e d (le_antisymm a b)) ∙ of_bits-to_bits binary64 s q.fitting
  where
    not-less : (a b : ℕ) → (T (ltb a b) → ⊥) → b ≤ a
    not-less a b h = nltb→le a b (not_T (ltb a b) h)
