-- One entry more of a list that is put. Assumes nothing.
use Rattle.std.proofs.Common.{◌≡◌, ℕ, ◌+◌, ◌<◌, List, [], ◌∷◌, ◌++◌, length, take, get_or, refl, sym, ap, ◌∙◌, append_assoc, append-nil}
use Rattle.std.proofs.lemmas.List.{take_more}
use Rattle.answers.specs.Entries.{all_texts}

module _ {A : Type 0} (texts : A → List (List ℕ)) where
  all-append : (l m : List A) → all_texts texts (l ++ m) ≡ all_texts texts l ++ all_texts texts m
  unfolding all_texts
  all-append [] m = refl
  all-append (x ∷ l) m = ap (λ (t : List (List ℕ)). texts x ++ t) (all-append l m) ∙ sym (append_assoc (texts x) (all_texts texts l) (all_texts texts m))

  one : (x : A) → all_texts texts (x ∷ []) ≡ texts x
  unfolding all_texts
  one x = append-nil (texts x)

  -- the one that stands at i
  pub one_more : (l : List A) (i : ℕ) (d : A) → i < length l → all_texts texts (take i l) ++ texts (get_or l i d) ≡ all_texts texts (take (i + 1) l)
  one_more l i d h =
      ap (λ (t : List (List ℕ)). all_texts texts (take i l) ++ t) (sym (one (get_or l i d)))
      ∙ sym (all-append (take i l) (get_or l i d ∷ [])) ∙ ap (all_texts texts) (sym (take_more l i d h))

  -- x, which stands there
  pub this_more
      : (l : List A) (i : ℕ) {x : A}
      → i < length l
      → x ≡ get_or l i x
      → all_texts texts (take i l) ++ texts x ≡ all_texts texts (take (i + 1) l)
  this_more l i {x} h e = ap (λ (y : A). all_texts texts (take i l) ++ texts y) e ∙ one_more l i x h
