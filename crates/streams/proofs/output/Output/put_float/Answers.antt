-- `streams::output::Output::put_float` meets its contract: only a NaN differs from itself. Assumes nothing.
use Rattle.std.proofs.Common.{◌≡◌, ℕ, true, not, T, List, [], ◌∷◌, refl, ap}
use lib.Ieee.{Float, nan, inf, fin, binary64, ne, is_nan, to_bits}
use Rattle.streams.specs.OutputLaws.{puts_as}
use Rattle.streams.specs.Output.{hex_text, float_text}
use Rattle.text.specs.Nan.{is-nan, is_number}
use Rattle.streams.proofs.output.Output.put_float.Goals as goal

nan-text : (x : Float) → ne x x ≡ true → 110 ∷ 97 ∷ 110 ∷ [] ≡ float_text x
unfolding float_text is_nan
nan-text x h = rw (is-nan x h)

number-text : (x : Float) → T (not (is_nan x)) → hex_text (to_bits binary64 x) ≡ float_text x
unfolding float_text is_nan
number-text nan h = absurd h
number-text (inf s) h = refl
number-text (fin s m e) h = refl

pub float_to_bits-x : goal.float_to_bits-x
float_to_bits-x c = is_number c.args.x c.if-x.false

pub returns-then-x : goal.returns-then-x
returns-then-x c = puts_as (ap (λ (text : List ℕ). text ∷ []) (nan-text c.args.x c.if-x.true)) c.put.ensures

pub returns-else-x : goal.returns-else-x
returns-else-x c =
    let a = c.args in
    puts_as (ap (λ (text : List ℕ). text ∷ []) (number-text a.x (is_number a.x c.if-x.false))) c.put_hex.ensures
