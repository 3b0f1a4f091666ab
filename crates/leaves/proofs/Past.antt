-- Floats read part by part. Assumes nothing.
use Rattle.std.proofs.Common.{◌≡◌, ℕ, zero, suc, ◌+◌, ◌*◌, List, refl, sym, ap, ◌∙◌, arith, Float, Result, Ok, Err}
use Rattle.std.proofs.Math.Nat.{suc-mul}
use Rattle.text.specs.declared.reader.Wrong.{Wrong}
use Rattle.text.specs.declared.fields.Field.{Field}
use Rattle.text.specs.Reader.{then, float_from, past_floats, came, left_at}

then_assoc
    : {A B C : Type 0} (r : Result (Field A) Wrong) (f : Field A → Result (Field B) Wrong) (g : Field B → Result (Field C) Wrong)
    → then (then r f) g ≡ then r (λ x. then (f x) g)
then_assoc (Ok x) f g = refl
then_assoc (Err w) f g = refl

-- m floats, and then n more
pub past_sum : (m n : ℕ) (line : List ℕ) (at : ℕ) → past_floats (m + n) line at ≡ then (past_floats m line at) (λ f. past_floats n line f.to)
unfolding past_floats
past_sum zero n line at =
    let none : zero + n ≡ n = omega arith in
    ap (λ (k : ℕ). past_floats k line at) none
past_sum (suc m) n line at =
    let one : suc m + n ≡ suc (m + n) = omega arith in
    ap (λ (k : ℕ). past_floats k line at) one
    ∙ ap (then (float_from line at)) (λ i x. past_sum m n line x.to i)
    ∙ sym (then_assoc (float_from line at) (λ x. past_floats m line x.to) (λ f. past_floats n line f.to))

-- a row more of so many
pub one_row : (k p n : ℕ) → suc k * p + n ≡ p + (k * p + n)
one_row k p n =
    let one = suc-mul k p in
    omega (arith, one)

pub one_column : (k m : ℕ) → suc k * m ≡ m + k * m
one_column k m =
    let one = suc-mul k m in
    omega (arith, one)

module _ (line : List ℕ) (all : Result (Field (Unit {0})) Wrong) (at : ℕ) where
  -- of m + n floats that are left, m are read; and nothing is left
  pub part : {to : ℕ} (m n : ℕ) → all ≡ past_floats (m + n) line at → came (Ok tt) to ≡ past_floats m line at → all ≡ past_floats n line to
  part m n r e = r ∙ past_sum m n line at ∙ simp (sym e)

  pub stopped
      : {w : Wrong} (to m n : ℕ)
      → all ≡ past_floats (m + n) line at
      → came {A = Unit {0}} (Err w) to ≡ past_floats m line at
      → to ≡ left_at (past_floats m line at)
      → (Err w ≡ all) × (to ≡ left_at all)
  stopped {w} to m n r e f =
      let is : Err w ≡ all = sym (r ∙ past_sum m n line at ∙ simp (sym e)) in
      (is, f ∙ ap left_at (sym e) ∙ ap left_at is)

  pub ended : all ≡ past_floats 0 line at → came (Ok tt) at ≡ all
  unfolding past_floats
  ended r = sym r

-- a float is a row of one
pub one_float : (line : List ℕ) (at : ℕ) {x : Float} {to : ℕ} → came (Ok x) to ≡ float_from line at → came (Ok tt) to ≡ past_floats 1 line at
unfolding past_floats
one_float line at e = simp (sym e)

pub one_wrong
    : (line : List ℕ) (at to : ℕ) {w : Wrong}
    → came {A = Float} (Err w) to ≡ float_from line at
    → to ≡ left_at (float_from line at)
    → (came {A = Unit {0}} (Err w) to ≡ past_floats 1 line at) × (to ≡ left_at (past_floats 1 line at))
unfolding past_floats
one_wrong line at to {w} e f =
    let is : came {A = Unit {0}} (Err w) to ≡ past_floats 1 line at = simp (sym e) in
    (is, f ∙ ap left_at (sym e) ∙ ap left_at is)
