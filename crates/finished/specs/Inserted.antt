-- A place put among those that are listed already, in an array of four. Definitions, and that it is `inserted`. Assumes nothing.
use Rattle.std.specs.Prelude.{◌≡◌, refl, Bool, true, false, cond, List, [], ◌∷◌, ◌++◌, ℕ, zero, suc, ◌-◌, ◌≤◌, ◌<◌, ltb, eqb, length, get_or, replicate}
use Rattle.std.proofs.Common.{sym, ap, ◌∙◌, arith, lt-ltb, le-ltb, eq-eqb, ne_eqb}
use Rattle.bench.specs.declared.types.Bench.{Bench}
use Rattle.bench.specs.Benches.{row_at}
use Rattle.bench.specs.Order.{inserted}
use Rattle.bench.specs.OrderLaws.{Above}

-- the working turns of the four places
abbrev pub turns_of : Bench → List ℕ
turns_of b = (row_at b 0).turns ∷ (row_at b 1).turns ∷ (row_at b 2).turns ∷ (row_at b 3).turns ∷ []

abbrev pub turns_in : List ℕ → (place : ℕ) → ℕ
turns_in turns place = cond (ltb 3 place) 0 (get_or turns place 0)

-- from entry `at` on, the first of so many that has more turns, or the entry behind them
abbrev pub position_from : (turns : ℕ → ℕ) → (place : ℕ) → List ℕ → (at left : ℕ) → ℕ
position_from turns p l at zero = at
position_from turns p l at (suc left) = cond (ltb (turns p) (turns (get_or l at 0))) at (position_from turns p l (suc at) left)

-- entry i, when a place stands at `at` and those from there on one further
abbrev pub entry_opened : (at place : ℕ) → List ℕ → (i : ℕ) → ℕ
entry_opened at p l i = cond (ltb i at) (get_or l i 0) (cond (eqb i at) p (get_or l (i - 1) 0))

abbrev pub opened_at : (at place : ℕ) → List ℕ → List ℕ
opened_at at p l = entry_opened at p l 0 ∷ entry_opened at p l 1 ∷ entry_opened at p l 2 ∷ entry_opened at p l 3 ∷ []

-- ---- test by test
module _ (at p : ℕ) (l : List ℕ) (i : ℕ) where
  pub entry-before : i < at → get_or l i 0 ≡ entry_opened at p l i
  entry-before h = ap (λ (b : Bool). cond b (get_or l i 0) (cond (eqb i at) p (get_or l (i - 1) 0))) (sym (lt-ltb i at h))

  behind : at ≤ i → cond (eqb i at) p (get_or l (i - 1) 0) ≡ entry_opened at p l i
  behind h = ap (λ (b : Bool). cond b (get_or l i 0) (cond (eqb i at) p (get_or l (i - 1) 0))) (sym (le-ltb i at h))

  pub entry-there : at ≤ i → i ≡ at → p ≡ entry_opened at p l i
  entry-there h e = ap (λ (b : Bool). cond b p (get_or l (i - 1) 0)) (sym (eq-eqb i at e)) ∙ behind h

  pub entry-behind : at ≤ i → (i ≡ at → ⊥) → get_or l (i - 1) 0 ≡ entry_opened at p l i
  entry-behind h e = ap (λ (b : Bool). cond b p (get_or l (i - 1) 0)) (sym (ne_eqb i at e)) ∙ behind h

module _ (turns : List ℕ) (place : ℕ) where
  pub turns-past : 3 < place → 0 ≡ turns_in turns place
  turns-past h = ap (λ (b : Bool). cond b 0 (get_or turns place 0)) (sym (lt-ltb 3 place h))

  pub turns-there : place ≤ 3 → get_or turns place 0 ≡ turns_in turns place
  turns-there h = ap (λ (b : Bool). cond b 0 (get_or turns place 0)) (sym (le-ltb 3 place h))

module _ (turns : ℕ → ℕ) (p : ℕ) (l : List ℕ) (at left : ℕ) where
  pub position_here : turns p < turns (get_or l at 0) → position_from turns p l at (suc left) ≡ at
  position_here h = ap (λ (b : Bool). cond b at (position_from turns p l (suc at) left)) (lt-ltb (turns p) (turns (get_or l at 0)) h)

  pub position-next : turns (get_or l at 0) ≤ turns p → position_from turns p l at (suc left) ≡ position_from turns p l (suc at) left
  position-next h = ap (λ (b : Bool). cond b at (position_from turns p l (suc at) left)) (le-ltb (turns p) (turns (get_or l at 0)) h)

-- ---- it is `inserted`
module _ (turns : ℕ → ℕ) (p : ℕ) where
  -- those that are listed, and zeros
  abbrev pub filled : List ℕ → List ℕ
  filled l = l ++ replicate (4 - length l) 0

  abbrev Put : List ℕ → Type 0
  Put l = opened_at (position_from turns p (filled l) 0 (length l)) p (filled l) ≡ inserted turns p l ++ replicate (4 - suc (length l)) 0

  pub put_in : (l : List ℕ) → length l ≤ 3 → Put l
  put_in [] h = refl
  put_in (a ∷ []) h = go (ltb (turns p) (turns a))
    where
      go : (x : Bool) → opened_at (cond x 0 1) p (a ∷ 0 ∷ 0 ∷ 0 ∷ []) ≡ cond x (p ∷ a ∷ []) (a ∷ p ∷ []) ++ replicate 2 0
      go true = refl
      go false = refl
  put_in (a ∷ b ∷ []) h = go (ltb (turns p) (turns a)) (ltb (turns p) (turns b))
    where
      go : (x y : Bool)
          → opened_at (cond x 0 (cond y 1 2)) p (a ∷ b ∷ 0 ∷ 0 ∷ []) ≡ cond x (p ∷ a ∷ b ∷ []) (a ∷ cond y (p ∷ b ∷ []) (b ∷ p ∷ [])) ++ replicate 1 0
      go true y = refl
      go false true = refl
      go false false = refl
  put_in (a ∷ b ∷ c ∷ []) h = go (ltb (turns p) (turns a)) (ltb (turns p) (turns b)) (ltb (turns p) (turns c))
    where
      go : (x y z : Bool) → opened_at (cond x 0 (cond y 1 (cond z 2 3))) p (a ∷ b ∷ c ∷ 0 ∷ []) ≡
          cond x (p ∷ a ∷ b ∷ c ∷ []) (a ∷ cond y (p ∷ b ∷ c ∷ []) (b ∷ cond z (p ∷ c ∷ []) (c ∷ p ∷ []))) ++ []
      go true y z = refl
      go false true z = refl
      go false false true = refl
      go false false false = refl
  put_in (a ∷ b ∷ c ∷ d ∷ l) h = absurd (past (length l) h)
    where
      past : (n : ℕ) → suc (suc (suc (suc n))) ≤ 3 → ⊥
      past n h = omega arith

-- ---- the turns of the four places are the rows'
turns-in : (b : Bench) (p : ℕ) → p < 4 → turns_in (turns_of b) p ≡ (row_at b p).turns
turns-in b zero h = refl
turns-in b (suc zero) h = refl
turns-in b (suc (suc zero)) h = refl
turns-in b (suc (suc (suc zero))) h = refl
turns-in b (suc (suc (suc (suc p)))) h = absurd (past p h)
  where
    past : (n : ℕ) → suc (suc (suc (suc n))) < 4 → ⊥
    past n h = omega arith

-- an entry of such a list, or 0 past it
below-four : (l : List ℕ) → Above 4 l → (i : ℕ) → get_or l i 0 < 4
below-four [] a i = omega arith
below-four (q ∷ qs) a zero = a.0
below-four (q ∷ qs) a (suc i) = below-four qs a.1 i

pub same-position : (b : Bench) (p : ℕ) → p < 4 → (l : List ℕ) → Above 4 l → (at left : ℕ) →
    position_from (turns_in (turns_of b)) p l at left ≡ position_from (λ (place : ℕ). (row_at b place).turns) p l at left
same-position b p h l a at zero = refl
same-position b p h l a at (suc left) =
    λ i. cond (ltb (turns-in b p h i) (turns-in b (get_or l at 0) (below-four l a at) i)) at (same-position b p h l a (suc at) left i)
