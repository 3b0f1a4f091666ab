-- A number and its opposite: the magnitude is one, and a quotient by the opposite is the opposite quotient. Assumes nothing.
use Rattle.std.specs.Prelude.{◌≡◌, refl, ℕ, ◌*◌, Bool, true, false, not, cond, eqb, pos, Float}
use Rattle.std.proofs.Common.{sym, ap, ◌∙◌}
use Rattle.std.specs.Float.{nan, inf, fin, Format}
use Rattle.std.specs.Float.Ieee.{up, down, unlike, neg, div, round}
use Rattle.floats.specs.Basic.{magnitude}
use Rattle.floatlaws.specs.Rounding.{round-neg}

pub magnitude-neg : (x : Float) → magnitude (neg x) ≡ magnitude x
unfolding magnitude neg
magnitude-neg nan = refl
magnitude-neg (inf s) = refl
magnitude-neg (fin s m e) = refl

neg-neg : (x : Float) → neg (neg x) ≡ x
unfolding neg
neg-neg nan = refl
neg-neg (inf true) = refl
neg-neg (inf false) = refl
neg-neg (fin true m e) = refl
neg-neg (fin false m e) = refl

round-not : (f : Format) (s : Bool) (a c : ℕ) → round f (not s) a c ≡ neg (round f s a c)
round-not f false a c = round-neg f a c
round-not f true a c = sym (ap neg (round-neg f a c) ∙ neg-neg (round f false a c))

unlike-not : (s t : Bool) → unlike s (not t) ≡ not (unlike s t)
unlike-not true true = refl
unlike-not true false = refl
unlike-not false true = refl
unlike-not false false = refl

pub div-neg : (f : Format) (x y : Float) → div f x (neg y) ≡ neg (div f x y)
unfolding div neg
div-neg f nan y = refl
div-neg f (inf s) nan = refl
div-neg f (inf s) (inf t) = refl
div-neg f (inf s) (fin t n d) = ap inf (unlike-not s t)
div-neg f (fin s m e) nan = refl
div-neg f (fin s m e) (inf t) = ap (λ (u : Bool). fin u 0 (pos 0)) (unlike-not s t)
div-neg f (fin s m e) (fin t n d) = ap quotient (unlike-not s t) ∙ turned (eqb n 0) (eqb m 0)
  where
    quotient : Bool → Float
    quotient u = cond (eqb n 0) (cond (eqb m 0) nan (inf u)) (round f u (m * up e * down d) (n * up d * down e))

    turned : (none zero : Bool)
        → cond none (cond zero nan (inf (not (unlike s t)))) (round f (not (unlike s t)) (m * up e * down d) (n * up d * down e))
        ≡ neg (cond none (cond zero nan (inf (unlike s t))) (round f (unlike s t) (m * up e * down d) (n * up d * down e)))
    turned true true = refl
    turned true false = refl
    turned false zero = round-not f (unlike s t) (m * up e * down d) (n * up d * down e)
