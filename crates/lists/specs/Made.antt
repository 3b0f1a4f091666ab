-- An array made by a closure, by `array::from_fn` or `map`, is the list made by the closure's rule. Assumes nothing.
use Rattle.std.specs.Prelude.{◌≡◌, ℕ, zero, suc, ◌+◌, ◌≤◌, ◌<◌, List, length, get_or}
use Rattle.std.proofs.Common.{sym, ap, ◌∙◌, subst, ext_get_or, inl, inr, eq-or-lt_of_le, arith}
use Rattle.std.specs.Array.{IsFromFnResult, IsFromFnResultFrom}
use Rattle.std.specs.Fn.{Mut, Called}
use Rattle.lists.specs.Tab.{tab, length-tab, get_or-tab}

pub listed : {B : Type 0} (rule : ℕ → B) (ys : List B) (n : ℕ) (d : B) → length ys ≡ n → ((i : ℕ) → i < n → get_or ys i d ≡ rule i) → ys ≡ tab rule n
listed rule ys n d long each =
    ext_get_or d ys (tab rule n) (long ∙ sym (length-tab rule n)) (λ i h. each i (rw long at h) ∙ sym (get_or-tab rule n i d (rw long at h)))

module _ {F B : Type 0} (g : Mut F (ℕ × Unit {0}) B) (f : F) (rule : ℕ → B) (ys : List B) where
  -- from entry i on, where each call leaves the closure as it was
  from : (i n : ℕ) → ((k : ℕ) (y : B) (q : F) → k < i + n → Called g f (k, tt) y q → (y ≡ rule k) × (q ≡ f)) → IsFromFnResultFrom g f ys i n
      → (k : ℕ) (d : B) → i ≤ k → k < i + n → get_or ys k d ≡ rule k
  from i zero steps made k d low high = absurd (omega arith)
  from i (suc n) steps made k d low high =
      let here = steps i made.1 made.0 (omega arith) made.3 in
      let rest = subst (λ (p : F). IsFromFnResultFrom g p ys (i + 1) n) here.1 made.4 in
      elim (eq-or-lt_of_le low) [
        | inl e ↦ ap (λ (m : ℕ). get_or ys m d) (sym e) ∙ made.2.1 d ∙ here.0 ∙ ap rule e
        | inr l ↦ from (i + 1) n (λ m y q h called. steps m y q (omega (arith, h)) called) rest k d (omega (arith, l)) (omega (arith, high))
      ]

  pub made : (n : ℕ) (d : B) → IsFromFnResult g f ys n → ((k : ℕ) (y : B) (q : F) → k < n → Called g f (k, tt) y q → (y ≡ rule k) × (q ≡ f)) → ys ≡ tab rule n
  made n d r steps =
      listed rule ys n d r.long (λ i h. from 0 n (λ k y q l called. steps k y q (omega (arith, l)) called) r.each i d (omega arith) (omega (arith, h)))
