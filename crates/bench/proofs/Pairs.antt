-- Two lists of equal length, entry by entry. Assumes nothing.
use Rattle.std.specs.Prelude.{◌≡◌, refl, List, [], ◌∷◌, ℕ, zero, suc, ◌<◌, length, get_or, set}
use Rattle.std.proofs.Common.{ap, le_of_suc-le-suc, arith}

pub data Pairs {A B : Type 0} (R : A → B → Type 0) : List A → List B → Type 0 where
  none : Pairs R [] []
  both : {a : A} {b : B} {s : List A} {t : List B} → R a b → Pairs R s t → Pairs R (a ∷ s) (b ∷ t)

module _ {A B : Type 0} {R : A → B → Type 0} where
  -- entry i, with the defaults past the end
  pub pair-get_or : {s : List A} {t : List B} (a : A) (b : B) → Pairs R s t → R a b → (i : ℕ) → R (get_or s i a) (get_or t i b)
  pair-get_or a b none q i = q
  pair-get_or a b (both h hs) q zero = h
  pair-get_or a b (both h hs) q (suc i) = pair-get_or a b hs q i

  pub pair-at : {s : List A} {t : List B} (a : A) (b : B) → Pairs R s t → (i : ℕ) → i < length s → R (get_or s i a) (get_or t i b)
  pair-at a b none i l = absurd (past i l)
    where
      past : (i : ℕ) → i < 0 → ⊥
      past i l = omega arith
  pair-at a b (both h hs) zero l = h
  pair-at a b (both h hs) (suc i) l = pair-at a b hs i (le_of_suc-le-suc l)

  pub pair_set : {s : List A} {t : List B} {a : A} {b : B} → Pairs R s t → (i : ℕ) → R a b → Pairs R (set s i a) (set t i b)
  pair_set none i q = none
  pair_set (both h hs) zero q = both q hs
  pair_set (both h hs) (suc i) q = both h (pair_set hs i q)

  pub pair-map : {S : A → B → Type 0} {s : List A} {t : List B} → ((a : A) (b : B) → R a b → S a b) → Pairs R s t → Pairs S s t
  pair-map f none = none
  pair-map f (both {a = a} {b = b} h hs) = both (f a b h) (pair-map f hs)

  pair-length : {s : List A} {t : List B} → Pairs R s t → length s ≡ length t
  pair-length none = refl
  pair-length (both h hs) = ap suc (pair-length hs)
