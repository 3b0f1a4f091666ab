-- The order of fractions goes through rounding, at every sign, at zeros of both signs, and where the result overflows. Assumes nothing.
use Rattle.std.specs.Prelude.{◌≡◌, refl, ℕ, zero, suc, ◌+◌, ◌*◌, ◌^◌, ◌≤◌, ◌<◌, Bool, true, false, ◌&&◌, ◌||◌, cond, T, ltb, eqb, Float}
use Rattle.std.proofs.Common.{sym, ap, ◌∙◌, subst, mul-pos, add-mul, zero-mul, lt_irrefl, arith, true≢false, eqb→eq, pow_pos}
use Rattle.std.specs.Float.{nan, inf, fin, Format}
use Rattle.std.specs.Float.Ieee.{up, down, neg, le, round, units, odd, prec, low, emax}
use Rattle.std.specs.Float.Ieee.Fits.{round_is, eq→eqb, and_i, and_l}
use Rattle.std.specs.Float.Ieee.Exact.{HasValue, round_exact}
use Rattle.std.specs.Float.Ieee.Order.{round_mono}
use Rattle.floatlaws.specs.Fractions.{Under, under→le, both_zero, across}

-- ---- the sign of what is rounded
odd-neg : (d q k l : ℕ) → odd d true q k l ≡ neg (odd d false q k l)
unfolding odd neg
odd-neg d zero k l = refl
odd-neg d (suc q) k l = refl

cond-neg : (b : Bool) (x : Float) → cond b (neg x) (inf true) ≡ neg (cond b x (inf false))
unfolding neg
cond-neg true x = refl
cond-neg false x = refl

units-neg : (f : Format) (q k : ℕ) → units f true q k ≡ neg (units f false q k)
unfolding units
units-neg f q k =
    ap (λ (x : Float). cond (ltb (q * 2 ^ k) (2 ^ (low f + suc (emax f)))) x (inf true)) (odd-neg (suc (prec f)) q k (low f))
    ∙ cond-neg (ltb (q * 2 ^ k) (2 ^ (low f + suc (emax f)))) (odd (suc (prec f)) false q k (low f))

pub round-neg : (f : Format) (a c : ℕ) → round f true a c ≡ neg (round f false a c)
round-neg f a c = round_is f true a c ∙ units-neg f _ _ ∙ ap neg (sym (round_is f false a c))

flip-eq : (a b : ℕ) → T (eqb a b) → T (eqb b a)
flip-eq a b t = eq→eqb (sym (eqb→eq a b t))

-- a below b at one sign is -b below -a: the same test, with the equality read the other way
turn-over : (o : Bool) (a b : ℕ) → T (o || (eqb a b && true)) → T (o || (eqb b a && true))
turn-over true a b t = tt
turn-over false a b t = and_i (eqb b a) true (flip-eq a b (and_l (eqb a b) true t)) tt

turn-zero : (a b : ℕ) → T (eqb a b && eqb a 0) → T (eqb b a && eqb b 0)
turn-zero a b t =
    let z = both_zero a b t in
    and_i (eqb b a) (eqb b 0) (eq→eqb (z.1 ∙ sym z.0)) (eq→eqb z.1)

pub neg-anti : (x y : Float) → T (le x y) → T (le (neg y) (neg x))
unfolding le neg
neg-anti nan y t = absurd t
neg-anti (inf s) nan t = absurd t
neg-anti (inf true) (inf true) t = tt
neg-anti (inf true) (inf false) t = tt
neg-anti (inf false) (inf true) t = absurd t
neg-anti (inf false) (inf false) t = tt
neg-anti (inf true) (fin r n d) t = tt
neg-anti (inf false) (fin r n d) t = absurd t
neg-anti (fin s m e) nan t = absurd t
neg-anti (fin s m e) (inf true) t = absurd t
neg-anti (fin s m e) (inf false) t = tt
neg-anti (fin false m e) (fin false n d) t = turn-over (ltb (m * up e * down d) (n * up d * down e)) (m * up e * down d) (n * up d * down e) t
neg-anti (fin true m e) (fin true n d) t = turn-over (ltb (n * up d * down e) (m * up e * down d)) (m * up e * down d) (n * up d * down e) t
neg-anti (fin true m e) (fin false n d) t = across (n * up d * down e) (m * up e * down d)
neg-anti (fin false m e) (fin true n d) t = turn-zero (m * up e * down d) (n * up d * down e) t

-- what is rounded as not negative is not negative, an infinity included
abbrev pub NotNegative : Float → Type 0
NotNegative nan = ⊥
NotNegative (inf s) = s ≡ false
NotNegative (fin s m e) = s ≡ false

odd-plus : (d q k l : ℕ) → NotNegative (odd d false q k l)
unfolding odd
odd-plus d zero k l = refl
odd-plus d (suc q) k l = refl

units-plus : (f : Format) (q k : ℕ) → NotNegative (units f false q k)
unfolding units
units-plus f q k = go (ltb (q * 2 ^ k) (2 ^ (low f + suc (emax f))))
  where
    go : (b : Bool) → NotNegative (cond b (odd (suc (prec f)) false q k (low f)) (inf false))
    go true = odd-plus (suc (prec f)) q k (low f)
    go false = refl

round-plus : (f : Format) (a c : ℕ) → NotNegative (round f false a c)
round-plus f a c = subst NotNegative (sym (round_is f false a c)) (units-plus f _ _)

opposite : (x y : Float) → NotNegative x → NotNegative y → T (le (neg x) y)
unfolding le neg
opposite nan y p q = absurd p
opposite (inf true) y p q = absurd (true≢false p)
opposite (inf false) nan p q = absurd q
opposite (inf false) (inf true) p q = absurd (true≢false q)
opposite (inf false) (inf false) p q = tt
opposite (inf false) (fin r n d) p q = tt
opposite (fin true m e) y p q = absurd (true≢false p)
opposite (fin false m e) nan p q = absurd q
opposite (fin false m e) (inf true) p q = absurd (true≢false q)
opposite (fin false m e) (inf false) p q = tt
opposite (fin false m e) (fin true n d) p q = absurd (true≢false q)
opposite (fin false m e) (fin false n d) p q = across (m * up e * down d) (n * up d * down e)

-- ---- a value that is (p - q) / c, rounded
abbrev pub Is : Bool → ℕ → ℕ → ℕ → Type 0
Is false w p q = p ≡ q + w
Is true w p q = q ≡ p + w

abbrev pub Rounded : Format → Float → ℕ → ℕ → ℕ → Type 0
Rounded f z p q c = (u : Bool) × (w : ℕ) × (z ≡ round f u w c) × Is u w p q

-- ---- zero, rounded at either sign
zero-value : (f : Format) (s : Bool) (c : ℕ) → 0 < c → HasValue (round f s 0 c) s 0 c
zero-value f s c C =
    round_exact f s 0 c 0 0 C (pow_pos (prec f)) (subst (λ (x : ℕ). x < 2 ^ (low f + suc (emax f))) (sym (zero-mul (2 ^ 0))) (pow_pos (low f + suc (emax f))))
    (zero-mul (2 ^ low f) ∙ sym (ap (λ (x : ℕ). x * c) (zero-mul (2 ^ 0)) ∙ zero-mul c))

gone : (a c e : ℕ) → 0 < c → a * c ≡ 0 * e → a ≡ 0
gone zero c e C h = refl
gone (suc a) c e C h = absurd (lt_irrefl 0 (subst (λ (x : ℕ). 0 < x) (h ∙ zero-mul e) (mul-pos (omega arith) C)))

lost : (x d : ℕ) → x ≡ 0 → x * d ≡ 0
lost x d h = ap (λ (y : ℕ). y * d) h ∙ zero-mul d

zeros-level : (x y : Float) (s t : Bool) (c d : ℕ) → 0 < c → 0 < d → HasValue x s 0 c → HasValue y t 0 d → T (le x y)
zeros-level nan y s t c d C D p q = absurd p
zeros-level (inf r) y s t c d C D p q = absurd p
zeros-level (fin r m e) nan s t c d C D p q = absurd q
zeros-level (fin r m e) (inf u) s t c d C D p q = absurd q
zeros-level (fin r m e) (fin u n h) s t c d C D p q =
    under→le (fin r m e) (fin u n h) tt tt (go r u (gone (m * up e) c (down e) C p.1) (gone (n * up h) d (down h) D q.1))
  where
    go : (r u : Bool) → m * up e ≡ 0 → n * up h ≡ 0 → Under (fin r m e) (fin u n h)
    go false false a b = omega (arith, lost (m * up e) (down h) a, lost (n * up h) (down e) b)
    go false true a b = omega (arith, lost (m * up e) (down h) a, lost (n * up h) (down e) b)
    go true false a b = omega (arith, lost (m * up e) (down h) a, lost (n * up h) (down e) b)
    go true true a b = omega (arith, lost (m * up e) (down h) a, lost (n * up h) (down e) b)

-- ---- the order goes through rounding, at every sign
pp : (p q w p' q' w' c d : ℕ) → p ≡ q + w → p' ≡ q' + w' → p * d + q' * c ≤ p' * c + q * d → w * d ≤ w' * c
pp p q w p' q' w' c d e e' h =
    let a : p * d ≡ q * d + w * d = ap (λ (x : ℕ). x * d) e ∙ add-mul q w d in
    let b : p' * c ≡ q' * c + w' * c = ap (λ (x : ℕ). x * c) e' ∙ add-mul q' w' c in
    omega arith

nought : (p q w p' q' w' c d : ℕ) → p ≡ q + w → q' ≡ p' + w' → p * d + q' * c ≤ p' * c + q * d → w * d + w' * c ≡ 0
nought p q w p' q' w' c d e e' h =
    let a : p * d ≡ q * d + w * d = ap (λ (x : ℕ). x * d) e ∙ add-mul q w d in
    let b : q' * c ≡ p' * c + w' * c = ap (λ (x : ℕ). x * c) e' ∙ add-mul p' w' c in
    omega arith

pub rounded-mono : (f : Format) (z z' : Float) (p q c p' q' d : ℕ) → 0 < c → 0 < d → Rounded f z p q c → Rounded f z' p' q' d → p * d + q' * c ≤ p' * c + q * d
    → T (le z z')
rounded-mono f z z' p q c p' q' d C D (u, w, e, i) (u', w', e', i') h =
    subst (λ (x : Float). T (le x z')) (sym e) (subst (λ (y : Float). T (le (round f u w c) y)) (sym e') (go u u' i i'))
  where
    go : (u u' : Bool) → Is u w p q → Is u' w' p' q' → T (le (round f u w c) (round f u' w' d))
    go false false a b = round_mono f w c w' d C D (pp p q w p' q' w' c d a b h)
    go true true a b =
        subst (λ (x : Float). T (le x (round f true w' d))) (sym (round-neg f w c))
        (subst (λ (y : Float). T (le (neg (round f false w c)) y)) (sym (round-neg f w' d))
        (neg-anti (round f false w' d) (round f false w c) (round_mono f w' d w c D C (pp q' p' w' q p w d c b a (omega (arith, h))))))
    go true false a b =
        subst (λ (x : Float). T (le x (round f false w' d))) (sym (round-neg f w c))
        (opposite (round f false w c) (round f false w' d) (round-plus f w c) (round-plus f w' d))
    go false true a b =
        let x : w * d + w' * c ≡ 0 = nought p q w p' q' w' c d a b h in
        let y : w ≡ 0 = gone w d 0 D (omega (arith, zero-mul 0, x)) in
        let y' : w' ≡ 0 = gone w' c 0 C (omega (arith, zero-mul 0, x)) in
        subst (λ (k : ℕ). T (le (round f false k c) (round f true w' d))) (sym y)
        (subst (λ (k : ℕ). T (le (round f false 0 c) (round f true k d))) (sym y')
        (zeros-level (round f false 0 c) (round f true 0 d) false true c d C D (zero-value f false c C) (zero-value f true d D)))
