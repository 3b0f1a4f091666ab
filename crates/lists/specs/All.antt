-- A test of every index below a count. Assumes nothing.
use Rattle.std.specs.Prelude.{◌≡◌, refl, Bool, true, false, ◌&&◌, ℕ, zero, suc, ◌+◌, ◌≤◌, ◌<◌, T, List, length, take, get_or}
use Rattle.std.proofs.Common.{sym, ap, ◌∙◌, inl, inr, eq-or-lt_of_le, le_of_suc-le-suc, add-one, arith}
use Rattle.std.specs.List.{list_all, range_with_len}
use Rattle.std.proofs.lemmas.List.{take_all}
use Rattle.std.proofs.lemmas.List.FromFn.{length-range_with_len, get_or-range_with_len}
use Rattle.std.proofs.lemmas.List.Folds.{list_all_more}
use Rattle.std.specs.Float.Ieee.Fits.{and_i, and_l, and_r}

-- the test holds at 0, .., n-1
unfoldable pub all_below : (ℕ → Bool) → ℕ → Bool
all_below t zero = true
all_below t (suc n) = all_below t n && t n

pub all-at : (t : ℕ → Bool) (n i : ℕ) → T (all_below t n) → i < n → T (t i)
unfolding all_below
all-at t zero i a h = absurd (no i h)
  where
    no : (i : ℕ) → i < 0 → ⊥
    no i h = omega arith
all-at t (suc n) i a h = elim (eq-or-lt_of_le (le_of_suc-le-suc h)) [
  | inl e ↦ rw e (and_r (all_below t n) (t n) a)
  | inr l ↦ all-at t n i (and_l (all_below t n) (t n) a) l
]

pub all_from : (t : ℕ → Bool) (n : ℕ) → ((i : ℕ) → i < n → T (t i)) → T (all_below t n)
unfolding all_below
all_from t zero h = tt
all_from t (suc n) h = and_i (all_below t n) (t n) (all_from t n (λ i l. h i (further i n l))) (h n (last n))
  where
    further : (k n : ℕ) → k < n → k < suc n
    further k n l = omega arith

    last : (n : ℕ) → n < suc n
    last n = omega arith

-- a test that fails somewhere below n
pub not-all : (t : ℕ → Bool) (n i : ℕ) → i < n → t i ≡ false → all_below t n ≡ false
not-all t n i h e = go (all_below t n) refl
  where
    go : (b : Bool) → all_below t n ≡ b → all_below t n ≡ false
    go true p = absurd (rw e at (all-at t n i (rw p tt) h))
    go false p = p

pub all_same : (s t : ℕ → Bool) (n : ℕ) → ((i : ℕ) → i < n → s i ≡ t i) → all_below s n ≡ all_below t n
unfolding all_below
all_same s t zero h = refl
all_same s t (suc n) h = λ i. all_same s t n (λ k l. h k (further k n l)) i && h n (last n) i
  where
    further : (k n : ℕ) → k < n → k < suc n
    further k n l = omega arith

    last : (n : ℕ) → n < suc n
    last n = omega arith

-- a turn of a loop that tests one index after another
pub all_more : (t : ℕ → Bool) (i : ℕ) → all_below t i ≡ true → t i ≡ true → all_below t (i + 1) ≡ true
unfolding all_below
all_more t i a e = rw (add-one, a, e)

-- a test of the first n entries of a list
pub all-listed : {A : Type 0} (t : A → Bool) (l : List A) (d : A) (n : ℕ) → n ≤ length l → all_below (λ (i : ℕ). t (get_or l i d)) n ≡ list_all t (take n l)
unfolding all_below
all-listed t l d zero h = refl
all-listed t l d (suc n) h =
    (λ i. all-listed t l d n (omega arith) i && t (get_or l n d)) ∙ sym (list_all_more t l n d h) ∙ ap (λ (k : ℕ). list_all t (take k l)) (add-one n)

-- a test of the numbers below n, as `(0..n).all` makes it
pub all-counted : (t : ℕ → Bool) (n : ℕ) → all_below t n ≡ list_all t (range_with_len 0 n)
all-counted t n =
    let numbers = range_with_len 0 n in
    let add-zero : (i : ℕ) → 0 + i ≡ i = λ i. omega arith in
    let long : length numbers ≡ n = length-range_with_len 0 n in
    all_same t (λ (i : ℕ). t (get_or numbers i 0)) n (λ i h. ap t (sym (get_or-range_with_len 0 n i 0 h ∙ add-zero i)))
    ∙ all-listed t numbers 0 n (omega (arith, long)) ∙ ap (list_all t) (take_all n numbers (omega (arith, long)))
