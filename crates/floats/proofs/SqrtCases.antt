-- `sqrt_of` by tests of a number: above zero and finite, infinite, zero, and the rest. Assumes nothing.
use Rattle.std.specs.Prelude.{◌≡◌, refl, ℕ, zero, suc, ◌*◌, ◌/◌, ◌^◌, ◌<◌, true, false, ℤ, pos, T, ltb, Float}
use Rattle.std.proofs.Common.{sym, ap, ◌∙◌, arith, true≢false, ltb→lt}
use Rattle.std.proofs.lemmas.Bool.{false≢true}
use Rattle.std.specs.Float.{nan, inf, fin, binary64}
use Rattle.std.specs.Float.Ieee.{up, down, fits, to_bits, lt, eq}
use Rattle.floats.specs.BasicLaws.{is-so, not-zero, zero_is, above_zero}
use Rattle.floats.specs.Sqrt.{root_at, sqrt_of}
use Rattle.floats.specs.Steps.{count}
use Rattle.floats.proofs.Patterns.{counted, pattern}

pub record Finite (x : Float) : Type 0 where
  pub some : 0 < to_bits binary64 x
  pub most : to_bits binary64 x < 0x7ff0_0000_0000_0000
  pub is : root_at (count (to_bits binary64 x) * 2 ^ 1074) ≡ sqrt_of x

pub sqrt-finite : (m : ℕ) (e : ℤ) → sqrt_of (fin false (suc m) e) ≡ root_at (suc m * up e * 2 ^ 1074 / down e * 2 ^ 1074)
unfolding sqrt_of
sqrt-finite m e = refl

pub finite-case : (x : Float) → T (fits binary64 x) → lt (fin false 0 (pos 0)) x ≡ true → lt x (inf false) ≡ true → Finite x
unfolding lt
finite-case nan f g h = absurd (false≢true h)
finite-case (inf true) f g h = absurd (false≢true g)
finite-case (inf false) f g h = absurd (false≢true h)
finite-case (fin true m e) f g h = absurd (false≢true g)
finite-case (fin false zero e) f g h = absurd (none (down e) (up e) (ltb→lt (0 * down e) (0 * up e * 1) (is-so (ltb (0 * down e) (0 * up e * 1)) g)))
  where
    none : (a b : ℕ) → 0 * a < 0 * b * 1 → ⊥
    none a b h = omega arith
finite-case (fin false (suc m) e) f g h =
    let p = pattern m e f in
    record {
      some = p.some;
      most = p.most;
      is = ap (λ (n : ℕ). root_at (n * 2 ^ 1074)) (p.counts ∙ sym (counted m e f)) ∙ sym (sqrt-finite m e);
    }

pub infinite-case : (x : Float) → lt (fin false 0 (pos 0)) x ≡ true → lt x (inf false) ≡ false → x ≡ sqrt_of x
unfolding lt sqrt_of
infinite-case nan g h = absurd (false≢true g)
infinite-case (inf true) g h = absurd (false≢true g)
infinite-case (inf false) g h = refl
infinite-case (fin s m e) g h = absurd (true≢false h)

pub zero-case : (x : Float) → eq x (fin false 0 (pos 0)) ≡ true → x ≡ sqrt_of x
unfolding sqrt_of
zero-case nan h = refl
zero-case (inf true) h = absurd (false≢true (unfold eq in h))
zero-case (inf false) h = refl
zero-case (fin s zero e) h = refl
zero-case (fin s (suc m) e) h = absurd (not-zero s m e h)

pub other-case : (x : Float) → lt (fin false 0 (pos 0)) x ≡ false → eq x (fin false 0 (pos 0)) ≡ false → nan ≡ sqrt_of x
unfolding sqrt_of
other-case nan g h = refl
other-case (inf true) g h = refl
other-case (inf false) g h = absurd (true≢false (unfold lt in g))
other-case (fin s zero e) g h = absurd (true≢false (sym (zero_is s e) ∙ h))
other-case (fin true (suc m) e) g h = refl
other-case (fin false (suc m) e) g h = absurd (true≢false (sym (above_zero m e) ∙ g))
