-- `streams::output::Output::put_hex` meets its contract: at a width of 16, `io::hex` answers 16, since a number of 64 bits takes no more. Assumes nothing.
use Rattle.std.proofs.Common.{◌≡◌, ℕ, ◌-◌, ◌^◌, ◌<◌, ◌≤◌, List, [], ◌∷◌, sym, ap, ◌∙◌, ⊎_elim, eq-or-lt_of_le, arith, lit<, rules}
use native.Mathlib.Nat.{pow-le-pow_right}
use Rattle.io.specs.Digits.{last_digits, IsDigitCount}
use Rattle.streams.specs.OutputLaws.{puts_as}
use Rattle.streams.specs.Output.{hex_text}
use Rattle.std.proofs.Common.{rules}
use Rattle.streams.proofs.output.Output.put_hex.Goals as goal

module _ (x k : ℕ) (fits : x < 2 ^ 64) (few : IsDigitCount 16 16 x k) where
  no_more : 16 < k → ⊥
  no_more h =
      let below : 16 ≤ k - 1 = omega arith in
      let more : 16 ^ 16 ≤ 16 ^ (k - 1) = pow-le-pow_right (lit< tt) below in
      let over = few.2 h in
      omega arith

  sixteen : k ≡ 16
  sixteen = ⊎_elim (λ e. sym e) (λ h. absurd (no_more h)) (eq-or-lt_of_le few.0)

all_digits : (x k : ℕ) (text : List ℕ) → k ≡ 16 → text ≡ last_digits 16 k x → text ≡ hex_text x
unfolding hex_text
all_digits x k text e h = h ∙ ap (λ (n : ℕ). last_digits 16 n x) e

pub returns : goal.returns
returns c =
    let a = c.args in
    let h = c.hex-n in
    let digits = all_digits a.x h.result _ (sixteen a.x h.result (search rules) h.ensures.len) h.ensures.digits in
    puts_as (ap (λ (text : List ℕ). text ∷ []) digits) c.put.ensures
