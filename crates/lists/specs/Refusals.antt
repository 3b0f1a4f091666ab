-- Refusals: "The lowest number that applies is returned". A call has a list of them, in the order of its checks; a refusal is spoken of by its number, never by
-- its place in the list. Assumes nothing.
use Rattle.std.specs.Prelude.{◌≡◌, refl, Bool, true, false, not, cond, ◌&&◌, ◌||◌, List, [], ◌∷◌, ◌++◌, ◌↔◌, ℕ, T, eqb}
use Rattle.std.proofs.Common.{sym, ◌∙◌, true≢false, eq-eqb, eqb-true}
use Rattle.std.proofs.lemmas.Bool.{false≢true, eqb-false}
use Rattle.std.specs.Float.Ieee.Fits.{and_l, and_r}

-- a number of the paper, and whether its cause holds
pub record Refusal : Type 0 where
  pub number : ℕ
  pub cause : Bool

abbrev pub refusal : ℕ → Bool → Refusal
refusal n b = record { number = n; cause = b }

-- the number of the first whose cause holds; 0 where none does
abbrev pub first_refusal : List Refusal → ℕ
first_refusal [] = 0
first_refusal (r ∷ rs) = cond r.cause r.number (first_refusal rs)

-- no cause holds
abbrev pub NoneOf : List Refusal → Type 0
NoneOf [] = Unit
NoneOf (r ∷ rs) = (r.cause ≡ false) × NoneOf rs

-- the cause of number n; the refusals in front of it; those behind it
abbrev pub cause_of : ℕ → List Refusal → Bool
cause_of n [] = false
cause_of n (r ∷ rs) = cond (eqb r.number n) r.cause (cause_of n rs)

abbrev pub before : ℕ → List Refusal → List Refusal
before n [] = []
before n (r ∷ rs) = cond (eqb r.number n) [] (r ∷ before n rs)

abbrev pub behind : ℕ → List Refusal → List Refusal
behind n [] = []
behind n (r ∷ rs) = cond (eqb r.number n) rs (behind n rs)

-- the number that comes next to n; 0 behind the last
abbrev first_number : List Refusal → ℕ
first_number [] = 0
first_number (r ∷ rs) = r.number

abbrev pub next_to : ℕ → List Refusal → ℕ
next_to n rs = first_number (behind n rs)

-- n is one of the numbers; it is none of them
abbrev pub has : ℕ → List Refusal → Bool
has n [] = false
has n (r ∷ rs) = eqb r.number n || has n rs

abbrev pub absent : ℕ → List Refusal → Bool
absent n [] = true
absent n (r ∷ rs) = not (eqb r.number n) && absent n rs

-- no number stands twice, and none is 0
abbrev pub distinct : List Refusal → Bool
distinct [] = true
distinct (r ∷ rs) = not (eqb 0 r.number) && absent r.number rs && distinct rs

other : (m n : ℕ) → T (not (eqb m n)) → m ≡ n → ⊥
other m n t e = no (eqb m n) (eq-eqb m n e) t
  where
    no : (b : Bool) → b ≡ true → T (not b) → ⊥
    no true p t = t
    no false p t = false≢true p

-- another number than that of the first was answered
passed : (c : Bool) (m n rest : ℕ) → (m ≡ n → ⊥) → cond c m rest ≡ n → (c ≡ false) × (rest ≡ n)
passed true m n rest t e = absurd (t e)
passed false m n rest t e = (refl, e)

not-answered : (n : ℕ) (rs : List Refusal) → T (not (eqb 0 n)) → T (absent n rs) → first_refusal rs ≡ n → ⊥
not-answered n [] z a e = other 0 n z e
not-answered n (r ∷ rs) z a e =
    not-answered n rs z (and_r (not (eqb r.number n)) (absent n rs) a)
    (passed r.cause r.number n (first_refusal rs) (other r.number n (and_l (not (eqb r.number n)) (absent n rs) a)) e).1

module _ (r : Refusal) (rs : List Refusal) (t : T (distinct (r ∷ rs))) where
  nonzero : T (not (eqb 0 r.number))
  nonzero = and_l (not (eqb 0 r.number)) (absent r.number rs) (and_l (not (eqb 0 r.number) && absent r.number rs) (distinct rs) t)

  unlike : T (absent r.number rs)
  unlike = and_r (not (eqb 0 r.number)) (absent r.number rs) (and_l (not (eqb 0 r.number) && absent r.number rs) (distinct rs) t)

  rest-distinct : T (distinct rs)
  rest-distinct = and_r (not (eqb 0 r.number) && absent r.number rs) (distinct rs) t

  first_holds : (c : Bool) → cond c r.number (first_refusal rs) ≡ r.number → c ≡ true
  first_holds true e = refl
  first_holds false e = absurd (not-answered r.number rs nonzero unlike e)

abbrev Answering : ℕ → List Refusal → Type 0
Answering n rs = (cause_of n rs ≡ true) × NoneOf (before n rs)

holds : (rs : List Refusal) (n : ℕ) → T (has n rs) → T (distinct rs) → first_refusal rs ≡ n → Answering n rs
holds [] n h t e = absurd h
holds (r ∷ rs) n h t e = go (eqb r.number n) refl h (λ h q. holds rs n h (rest-distinct r rs t) q)
  where
    go : (b : Bool) → eqb r.number n ≡ b → T (b || has n rs) → (T (has n rs) → first_refusal rs ≡ n → Answering n rs)
        → (cond b r.cause (cause_of n rs) ≡ true) × NoneOf (cond b [] (r ∷ before n rs))
    go true q h later = (first_holds r rs t r.cause (e ∙ sym (eqb-true r.number n q)), tt)
    go false q h later =
        let p = passed r.cause r.number n (first_refusal rs) (eqb-false r.number n q) e in
        let s = later h p.1 in
        (s.0, (p.0, s.1))

answering : (rs : List Refusal) (n : ℕ) → T (has n rs) → Answering n rs → first_refusal rs ≡ n
answering [] n h p = absurd h
answering (r ∷ rs) n h p = go (eqb r.number n) refl h p (answering rs n)
  where
    go : (b : Bool) → eqb r.number n ≡ b → T (b || has n rs) → (cond b r.cause (cause_of n rs) ≡ true) × NoneOf (cond b [] (r ∷ before n rs)) →
        (T (has n rs) → Answering n rs → first_refusal rs ≡ n) → cond r.cause r.number (first_refusal rs) ≡ n
    go true q h p later = rw p.0 (eqb-true r.number n q)
    go false q h p later = rw p.1.0 (later h (p.0, p.1.1))

-- A number is answered exactly when its cause holds and none in front of it does.
pub answers : (rs : List Refusal) (n : ℕ) → T (has n rs) → T (distinct rs) → (first_refusal rs ≡ n) ↔ ((cause_of n rs ≡ true) × NoneOf (before n rs))
answers rs n h t = (holds rs n h t, answering rs n h)

-- 0 is answered exactly when no cause holds.
pub answers-none : (rs : List Refusal) → T (distinct rs) → (first_refusal rs ≡ 0) ↔ NoneOf rs
answers-none rs t = (to rs t, from rs)
  where
    to : (l : List Refusal) → T (distinct l) → first_refusal l ≡ 0 → NoneOf l
    to [] t e = tt
    to (r ∷ l) t e =
        let p = passed r.cause r.number 0 (first_refusal l) (λ q. other 0 r.number (nonzero r l t) (sym q)) e in
        (p.0, to l (rest-distinct r l t) p.1)

    from : (l : List Refusal) → NoneOf l → first_refusal l ≡ 0
    from [] h = refl
    from (r ∷ l) h = rw h.0 (from l h.1)

-- where no cause holds, that of a number does not
either-false : (b c d : Bool) → c ≡ false → d ≡ false → cond b c d ≡ false
either-false true c d h k = h
either-false false c d h k = k

pub none_of : (rs : List Refusal) (n : ℕ) → NoneOf rs → cause_of n rs ≡ false
none_of [] n h = refl
none_of (r ∷ rs) n h = either-false (eqb r.number n) r.cause (cause_of n rs) h.0 (none_of rs n h.1)

-- nor do those of a beginning of the list
pub none-front : (rs more : List Refusal) → NoneOf (rs ++ more) → NoneOf rs
none-front [] more h = tt
none-front (r ∷ rs) more h = (h.0, none-front rs more h.1)

-- nothing stands in front of the first
none_first : (rs : List Refusal) → NoneOf (before (first_number rs) rs)
none_first [] = tt
none_first (r ∷ rs) = go (eqb r.number r.number) (eq-eqb r.number r.number refl)
  where
    go : (b : Bool) → b ≡ true → NoneOf (cond b [] (r ∷ before r.number rs))
    go true q = tt
    go false q = absurd (false≢true q)

-- one more of them does not hold
pub none-next : (rs : List Refusal) (n : ℕ) → NoneOf (before n rs) → cause_of n rs ≡ false → NoneOf (before (next_to n rs) rs)
none-next [] n h e = tt
none-next (r ∷ rs) n h e = go (eqb r.number n) h e (none-next rs n)
  where
    in-front : (m : ℕ) (b : Bool) → r.cause ≡ false → NoneOf (before m rs) → NoneOf (cond b [] (r ∷ before m rs))
    in-front m true c k = tt
    in-front m false c k = (c, k)

    go : (b : Bool) → NoneOf (cond b [] (r ∷ before n rs)) → cond b r.cause (cause_of n rs) ≡ false
        → (NoneOf (before n rs) → cause_of n rs ≡ false → NoneOf (before (next_to n rs) rs)) →
        NoneOf (before (first_number (cond b rs (behind n rs))) (r ∷ rs))
    go true h e later = in-front (first_number rs) (eqb r.number (first_number rs)) e (none_first rs)
    go false h e later = in-front (next_to n rs) (eqb r.number (next_to n rs)) h.0 (later h.1 e)

pub none_both : (rs more : List Refusal) → NoneOf rs → NoneOf more → NoneOf (rs ++ more)
none_both [] more n m = m
none_both (r ∷ rs) more n m = (n.0, none_both rs more n.1 m)

-- a cause that is a test turned round: where it does not hold the test does, and the other way round
pub let_through : (test : Bool) → not test ≡ false → T test
let_through true e = tt
let_through false e = absurd (true≢false e)

pub not-refusing : (test : Bool) → T test → not test ≡ false
not-refusing true t = refl
not-refusing false t = absurd t
