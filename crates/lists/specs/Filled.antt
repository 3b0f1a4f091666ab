-- A list filled by a rule as far as p, and kept from there on. Assumes nothing.
use Rattle.std.specs.Prelude.{◌≡◌, refl, Bool, true, false, cond, List, ◌++◌, ℕ, ◌+◌, ◌-◌, ◌≤◌, ◌<◌, ltb, length, get_or, drop}
use Rattle.std.proofs.Common.{sym, ap, ◌∙◌, add-sub_of_le, length-append, length-drop, ext_get_or, get_or-append-add, get_or-drop, ltb-true, ltb-false}
use Rattle.std.proofs.Math.ListN.{get_or-append}
use Rattle.lists.specs.Tab.{tab, length-tab, get_or-tab}

module _ {A : Type 0} (f rest : ℕ → A) (p : ℕ) (l : List A) (d : A) (room : p ≤ length l) (kept : (i : ℕ) → i < length l → get_or l i d ≡ rest i) where
  full : length (tab f p ++ drop p l) ≡ length l
  full = rw (length-append, length-tab f p, length-drop) (add-sub_of_le room)

  entry : (i : ℕ) (b : Bool) → ltb i p ≡ b → i < length l → get_or (tab f p ++ drop p l) i d ≡ cond b (f i) (rest i)
  entry i true e h = get_or-append (tab f p) (drop p l) d i (rw (length-tab f p) (ltb-true i p e)) ∙ get_or-tab f p i d (ltb-true i p e)
  entry i false e h =
      let q : length (tab f p) + (i - p) ≡ i = rw (length-tab f p) (add-sub_of_le (ltb-false i p e)) in
      let r : p + (i - p) ≡ i = add-sub_of_le (ltb-false i p e) in
      ap (λ (k : ℕ). get_or (tab f p ++ drop p l) k d) (sym q) ∙ get_or-append-add (tab f p) (drop p l) (i - p) d ∙ get_or-drop p l (i - p) d
      ∙ ap (λ (k : ℕ). get_or l k d) r ∙ kept i h

  pub filled : tab f p ++ drop p l ≡ tab (λ (i : ℕ). cond (ltb i p) (f i) (rest i)) (length l)
  filled =
      ext_get_or d (tab f p ++ drop p l) (tab (λ (i : ℕ). cond (ltb i p) (f i) (rest i)) (length l)) (full ∙ sym (length-tab _ (length l)))
      (λ i h. entry i (ltb i p) refl (rw full at h) ∙ sym (get_or-tab (λ (k : ℕ). cond (ltb k p) (f k) (rest k)) (length l) i d (rw full at h)))
