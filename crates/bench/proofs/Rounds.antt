-- The first place found going round: it has a job to serve, and no other that has one lies nearer. Assumes nothing.
use Rattle.std.specs.Prelude.{◌≡◌, refl, ◌⊎◌, ◌≢◌, Bool, true, false, not, cond, ◌&&◌, ℕ, zero, suc, ◌+◌, ◌-◌, ◌%◌, ◌<◌, ◌≤◌, T, ltb}
use Rattle.std.proofs.Common.{sym, ◌∙◌, subst, inl, inr, arith, ltb→lt, lt→ltb, nltb→le}
use Rattle.std.proofs.lemmas.Bool.{false≢true}
use Rattle.std.specs.Float.Ieee.Fits.{and_i, and_l, and_r}
use Rattle.bench.specs.Dealing.{place_after, Found, at, nowhere, first_from}

pub split : (a b : ℕ) → (a < b) ⊎ (b ≤ a)
split a b = go (ltb a b) (ltb→lt a b) (nltb→le a b)
  where
    go : (x : Bool) → (T x → a < b) → (T (not x) → b ≤ a) → (a < b) ⊎ (b ≤ a)
    go true h k = inl (h tt)
    go false h k = inr (k tt)

-- how many places on from n the place i is, going round
abbrev pub distance : (n i : ℕ) → ℕ
distance n i = (i + 4 - n) % 4

pub record Nearest (live : ℕ → Bool) (n k : ℕ) : Type 0 where
  pub passes : live k ≡ true
  pub place : k < 4
  pub none_nearer : (i : ℕ) → i < 4 → live i ≡ true → distance n k ≤ distance n i

-- what is found from n, all the way round
abbrev pub Says : (live : ℕ → Bool) (n : ℕ) → Found → Type 0
Says live n (at k) = Nearest live n k
Says live n nowhere = (i : ℕ) → i < 4 → live i ≡ false

-- m places have been passed over
abbrev Passed : (live : ℕ → Bool) (n m : ℕ) → Type 0
Passed live n m = (i : ℕ) → i < 4 → distance n i < m → live i ≡ false

here : (n m i : ℕ) → n < 4 → m < 4 → i < 4 → distance n i < suc m → m ≤ distance n i → (n + m) % 4 ≡ i
here n m i h k l g p = omega arith

there : (n m : ℕ) → n < 4 → m < 4 → distance n ((n + m) % 4) ≡ m
there n m h k = omega arith

near : (n m : ℕ) → n < 4 → m + 0 ≡ 4 → (i : ℕ) → i < 4 → distance n i < m
near n m h e i l = omega arith

one_on : (n m : ℕ) → place_after ((n + m) % 4) ≡ (n + suc m) % 4
one_on n m = omega arith

module _ (live : ℕ → Bool) (n : ℕ) (small : n < 4) where
  found-by : (left m : ℕ) → m + left ≡ 4 → Passed live n m → Says live n (first_from live left ((n + m) % 4))
  found-by zero m e p = λ i l. p i l (near n m small e i l)
  found-by (suc left) m e p = go (live ((n + m) % 4)) refl (λ h. found-by left (suc m) (omega arith) h)
    where
      m-small : m < 4
      m-small = omega arith

      go : (b : Bool) → live ((n + m) % 4) ≡ b → (Passed live n (suc m) → Says live n (first_from live left ((n + suc m) % 4)))
          → Says live n (cond b (at ((n + m) % 4)) (first_from live left (place_after ((n + m) % 4))))
      go true t more = record {
        passes = t;
        place = omega arith;
        none_nearer = λ i l u. elim (split (distance n i) m) [
          | inl q ↦ absurd (false≢true (sym (p i l q) ∙ u))
          | inr q ↦ subst (λ (x : ℕ). x ≤ distance n i) (sym (there n m small m-small)) q
        ];
      }
      go false t more = subst (λ (x : ℕ). Says live n (first_from live left x)) (sym (one_on n m)) (more passed)
        where
          passed : Passed live n (suc m)
          passed i l g = elim (split (distance n i) m) [
            | inl q ↦ p i l q
            | inr q ↦ subst (λ (x : ℕ). live x ≡ false) (here n m i small m-small l g q) t
          ]

  start : (n + 0) % 4 ≡ n
  start = omega arith

  pub found : Says live n (first_from live 4 n)
  found = subst (λ (x : ℕ). Says live n (first_from live 4 x)) start (found-by 4 0 refl (λ i l g. absurd (none (distance n i) g)))
    where
      none : (x : ℕ) → x < 0 → ⊥
      none x h = omega arith

-- ---- distances after a place is served: each a test computed over the four places
all4 : (ℕ → Bool) → Bool
all4 f = f 0 && (f 1 && (f 2 && f 3))

at4 : (f : ℕ → Bool) → T (f 0 && (f 1 && (f 2 && f 3))) → (n : ℕ) → n < 4 → T (f n)
at4 f t zero h = and_l (f 0) (f 1 && (f 2 && f 3)) t
at4 f t (suc zero) h = and_l (f 1) (f 2 && f 3) (and_r (f 0) (f 1 && (f 2 && f 3)) t)
at4 f t (suc (suc zero)) h = and_l (f 2) (f 3) (and_r (f 1) (f 2 && f 3) (and_r (f 0) (f 1 && (f 2 && f 3)) t))
at4 f t (suc (suc (suc zero))) h = and_r (f 2) (f 3) (and_r (f 1) (f 2 && f 3) (and_r (f 0) (f 1 && (f 2 && f 3)) t))
at4 f t (suc (suc (suc (suc n)))) h = absurd (omega arith)

abbrev implies : Bool → Bool → Bool
implies true b = b
implies false b = true

then : (a b : Bool) → T (implies a b) → T a → T b
then true b t s = t
then false b t s = elim s [ ]

-- while k is served, what lies behind it comes nearer, and two places keep their order
abbrev nearer_test : ℕ → ℕ → ℕ → Bool
nearer_test n k i = implies (ltb (distance n k) (distance n i)) (ltb (distance (place_after k) i) (distance n i))

nearer-so : T (all4 (λ n. all4 (λ k. all4 (λ i. nearer_test n k i))))
unfolding all4
nearer-so = tt

pub nearer : (n k i : ℕ) → n < 4 → k < 4 → i < 4 → distance n k < distance n i → distance (place_after k) i < distance n i
unfolding all4
nearer n k i h l m g =
    ltb→lt (distance (place_after k) i) (distance n i)
    (then (ltb (distance n k) (distance n i)) _
    (at4 (nearer_test n k) (at4 (λ k. all4 (nearer_test n k)) (at4 (λ n. all4 (λ k. all4 (nearer_test n k))) nearer-so n h) k l) i m)
    (lt→ltb (distance n k) (distance n i) g))

abbrev order_test : ℕ → ℕ → ℕ → ℕ → Bool
order_test n k i j =
    implies (ltb (distance n k) (distance n i) && ltb (distance n i) (distance n j)) (ltb (distance (place_after k) i) (distance (place_after k) j))

order-so : T (all4 (λ n. all4 (λ k. all4 (λ i. all4 (λ j. order_test n k i j)))))
unfolding all4
order-so = tt

pub keeps-order : (n k i j : ℕ) → n < 4 → k < 4 → i < 4 → j < 4 → distance n k < distance n i → distance n i < distance n j
    → distance (place_after k) i < distance (place_after k) j
unfolding all4
keeps-order n k i j h l m o g r =
    ltb→lt (distance (place_after k) i) (distance (place_after k) j)
    (then (ltb (distance n k) (distance n i) && ltb (distance n i) (distance n j)) _
    (at4 (order_test n k i) (at4 (λ i. all4 (order_test n k i)) (at4 (λ k. all4 (λ i. all4 (order_test n k i)))
    (at4 (λ n. all4 (λ k. all4 (λ i. all4 (order_test n k i)))) order-so n h) k l) i m) j o)
    (and_i (ltb (distance n k) (distance n i)) (ltb (distance n i) (distance n j)) (lt→ltb (distance n k) (distance n i) g)
    (lt→ltb (distance n i) (distance n j) r)))

-- a place that was served comes last
pub turned-over : (i j : ℕ) → i < 4 → j < 4 → i ≢ j → distance (place_after i) j < distance (place_after i) i
turned-over i j h k e = omega arith

pub strictly : (n k i : ℕ) → n < 4 → k < 4 → i < 4 → distance n k ≤ distance n i → i ≢ k → distance n k < distance n i
strictly n k i h l m g e = elim (split (distance n k) (distance n i)) [ inl p ↦ p | inr p ↦ absurd (e (sym (same (eq (distance n k) (distance n i) g p)))) ]
  where
    same : distance n k ≡ distance n i → k ≡ i
    same e = omega arith

    eq : (a b : ℕ) → a ≤ b → b ≤ a → a ≡ b
    eq a b g p = omega arith

pub after_small : (k : ℕ) → place_after k < 4
after_small k = omega arith
