-- `streams::output::Output::put_decimal` meets its contract: the fewest places, of which `io::decimal` speaks, are those that are looked for. Assumes nothing.
use Rattle.std.proofs.Common.{◌≡◌, ℕ, zero, suc, ◌+◌, ◌-◌, ◌^◌, ◌<◌, ◌≤◌, List, [], ◌∷◌, sym, ap, ◌∙◌, ⊎_elim, le_of_suc-le-suc, eq-or-lt_of_le, lt_of_not-le}
use Rattle.std.proofs.Common.{arith, lit<, rules, le-ltb, lt-ltb}
use native.Mathlib.Nat.{pow-le-pow_right}
use Rattle.io.specs.Digits.{last_digits, IsDigitCount}
use Rattle.streams.specs.OutputLaws.{puts_as}
use Rattle.streams.specs.Output.{places_from, decimal_text}
use Rattle.streams.proofs.output.Output.put_decimal.Goals as goal

module _ (x k : ℕ) (few : IsDigitCount 10 1 x k) where
  -- fewer places than the fewest do not hold x
  too_few : (j : ℕ) → 1 ≤ j → j < k → 10 ^ j ≤ x
  too_few j one h =
      let more : 10 ^ j ≤ 10 ^ (k - 1) = pow-le-pow_right (lit< tt) (omega arith) in
      let over : 10 ^ (k - 1) ≤ x = few.2 (omega arith) in
      omega arith

  found : (n j : ℕ) → 1 ≤ j → j ≤ k → k ≤ j + n → places_from n j x ≡ k
  unfolding places_from
  found zero j one low high = omega arith
  found (suc n) j one low high =
      ⊎_elim
      (λ (e : j ≡ k). rw e (simp (lt-ltb x (10 ^ k) few.1)))
      (λ (h : j < k). simp (le-ltb x (10 ^ j) (too_few j one h)) (found n (suc j) (omega arith) h (omega arith)))
      (eq-or-lt_of_le low)

  -- and a number of 64 bits takes no more than twenty
  twenty : x < 2 ^ 64 → k ≤ 20
  twenty fits =
      le_of_suc-le-suc
      (lt_of_not-le (λ (h : 21 ≤ k).
      let below : 20 ≤ k - 1 = omega arith in
      let more : 10 ^ 20 ≤ 10 ^ (k - 1) = pow-le-pow_right (lit< tt) below in
      let over : 10 ^ (k - 1) ≤ x = few.2 (omega arith) in
      omega arith))

all_digits : (x k : ℕ) (text : List ℕ) → IsDigitCount 10 1 x k → x < 2 ^ 64 → text ≡ last_digits 10 k x → text ≡ decimal_text x
unfolding decimal_text
all_digits x k text few fits is = is ∙ ap (λ (n : ℕ). last_digits 10 n x) (sym (found x k few 19 1 (lit< tt) few.0 (twenty x k few fits)))

pub returns : goal.returns
returns c =
    let a = c.args in
    let d = c.decimal-n in
    puts_as (ap (λ (text : List ℕ). text ∷ []) (all_digits a.x d.result _ d.ensures.len (search rules) d.ensures.digits)) c.put.ensures
