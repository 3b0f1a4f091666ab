-- A part of a list that is written: `sets l at vs` is l with vs from index at on (`lib.Seq`). Assumes nothing.
use Rattle.std.specs.Prelude.{◌≡◌, refl, List, [], ◌∷◌, ◌⊎◌, ◌≢◌, ℕ, zero, suc, ◌+◌, ◌≤◌, ◌<◌, length, get_or, set}
use Rattle.std.proofs.Common.{ap, ◌∙◌, inl, inr, add-zero, arith, length-set, get_or-set_same, get_or-set_other}
use Rattle.std.proofs.lemmas.List.Edits.{sets}

-- an index outside a part is outside its rest, and is not the part's first
module _ (at i n : ℕ) where
  pub outside-rest : (i < at) ⊎ (at + suc n ≤ i) → (i < suc at) ⊎ (suc at + n ≤ i)
  outside-rest (inl b) = inl (omega arith)
  outside-rest (inr b) = inr (omega arith)

  pub outside-first : (i < at) ⊎ (at + suc n ≤ i) → i ≢ at
  outside-first (inl b) = omega arith
  outside-first (inr b) = omega arith

module _ {A : Type 0} where
  -- what stands before the part, or behind it, stays
  pub get_or-sets-out : (vs l : List A) (at i : ℕ) (d : A) → (i < at) ⊎ (at + length vs ≤ i) → get_or (sets l at vs) i d ≡ get_or l i d
  get_or-sets-out [] l at i d h = refl
  get_or-sets-out (v ∷ vs) l at i d h =
      get_or-sets-out vs (set l at v) (suc at) i d (outside-rest at i (length vs) h) ∙ get_or-set_other l at i v d (outside-first at i (length vs) h)

  -- what was written stands in the part
  pub get_or-sets-in : (vs l : List A) (at k : ℕ) (d : A) → k < length vs → at + length vs ≤ length l → get_or (sets l at vs) (at + k) d ≡ get_or vs k d
  get_or-sets-in [] l at k d h g = absurd (no k h)
    where
      no : (k : ℕ) → k < 0 → ⊥
      no k h = omega arith
  get_or-sets-in (v ∷ vs) l at zero d h g =
      ap (λ (i : ℕ). get_or (sets (set l at v) (suc at) vs) i d) (add-zero at) ∙ get_or-sets-out vs (set l at v) (suc at) at d (inl (omega arith))
      ∙ get_or-set_same l at v d (omega arith)
  get_or-sets-in (v ∷ vs) l at (suc k) d h g =
      ap (λ (i : ℕ). get_or (sets (set l at v) (suc at) vs) i d) (shift at k)
      ∙ get_or-sets-in vs (set l at v) (suc at) k d (omega arith) (rw (length-set l at v) (room at (length vs) (length l) g))
    where
      shift : (at k : ℕ) → at + suc k ≡ suc at + k
      shift at k = omega arith

      room : (at n m : ℕ) → at + suc n ≤ m → suc at + n ≤ m
      room at n m g = omega arith
