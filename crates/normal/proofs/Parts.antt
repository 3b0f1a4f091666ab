-- Parts of a list that are written one number after another. Assumes nothing.
use mathlib.Core.Path.{◌≡◌, refl, sym, ap, ◌∙◌}
use mathlib.Core.List.{List, [], ◌∷◌, ◌++◌}
use mathlib.Core.Logic.{◌⊎◌, inl}
use Prim.Native.Nat.{ℕ, suc, ◌+◌, ◌≤◌, ◌<◌}
use native.Mathlib.Nat.{add-zero}
use native.Mathlib.Numerals.{add-one}
use native.Mathlib.Omega.{arith}
use lib.ListN.{length, get_or, set, drop, length-drop}
use lib.Seq.{sets, set_comm, get_or-drop, ext_get_or}
use Rattle.lists.specs.Tab.{tab, length-tab, get_or-tab}
use Rattle.lists.specs.Parts.{get_or-sets-in, get_or-sets-out, outside-first, outside-rest}

module _ {A : Type 0} where
  -- a store outside a part, before the part is written or after
  pub set-sets : (vs l : List A) (at i : ℕ) (v : A) → (i < at) ⊎ (at + length vs ≤ i) → set (sets l at vs) i v ≡ sets (set l i v) at vs
  set-sets [] l at i v h = refl
  set-sets (w ∷ vs) l at i v h =
      set-sets vs (set l at w) (suc at) i v (outside-rest at i (length vs) h)
      ∙ ap (λ (k : List A). sets k (suc at) vs) (set_comm l at i w v (λ e. outside-first at i (length vs) h (sym e)))

  -- a part grows at its end, and at its front
  sets-snoc : (vs l : List A) (at : ℕ) (v : A) → set (sets l at vs) (at + length vs) v ≡ sets l at (vs ++ (v ∷ []))
  sets-snoc [] l at v = ap (λ (k : ℕ). set l k v) (add-zero at)
  sets-snoc (w ∷ vs) l at v = ap (λ (i : ℕ). set (sets (set l at w) (suc at) vs) i v) (shift at (length vs)) ∙ sets-snoc vs (set l at w) (suc at) v
    where
      shift : (at n : ℕ) → at + suc n ≡ suc at + n
      shift at n = omega arith

  pub sets-cons : (vs l : List A) (at : ℕ) (v : A) → set (sets l (suc at) vs) at v ≡ sets l at (v ∷ vs)
  sets-cons vs l at v = set-sets vs l (suc at) at v (inl (omega arith))

  -- a turn of a loop that writes a part by a rule
  pub part_step : (f : ℕ → A) (l p : List A) (at i x : ℕ) (v : A) → p ≡ sets l at (tab f i) → x ≡ at + i → v ≡ f i → set p x v ≡ sets l at (tab f (i + 1))
  unfolding tab
  part_step f l p at i x v e ex ev =
      (λ k. set (e k) (ex k) (ev k)) ∙ rw add-one (ap (λ (n : ℕ). set (sets l at (tab f i)) (at + n) (f i)) (sym (length-tab f i))
      ∙ sets-snoc (tab f i) l at (f i))

  -- what a part that is written by a rule holds, and what stands outside it
  pub part_in : (f : ℕ → A) (l : List A) (at n k : ℕ) (d : A) → k < n → at + n ≤ length l → get_or (sets l at (tab f n)) (at + k) d ≡ f k
  part_in f l at n k d h g = get_or-sets-in (tab f n) l at k d (rw (length-tab f n) h) (rw (length-tab f n) g) ∙ get_or-tab f n k d h

  pub part_out : (f : ℕ → A) (l : List A) (at n x : ℕ) (d : A) → (x < at) ⊎ (at + n ≤ x) → get_or (sets l at (tab f n)) x d ≡ get_or l x d
  part_out f l at n x d h = get_or-sets-out (tab f n) l at x d (rw (length-tab f n) h)

  -- lists that agree from n on
  pub same-behind : (l l' : List A) (n : ℕ) (d : A) → length l' ≡ length l → ((x : ℕ) → n ≤ x → get_or l' x d ≡ get_or l x d) → drop n l' ≡ drop n l
  same-behind l l' n d e h =
      ext_get_or d (drop n l') (drop n l) (rw (length-drop n l', length-drop n l, e))
      (λ i b. get_or-drop n l' i d ∙ h (n + i) (omega arith) ∙ sym (get_or-drop n l i d))
