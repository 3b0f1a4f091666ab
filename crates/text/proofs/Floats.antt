-- A loop that reads floats over a row. Assumes nothing.
use Rattle.std.proofs.Common.{◌≡◌, ℕ, ◌+◌, ◌<◌, ◌≤◌, List, [], ◌∷◌, ◌++◌, length, get_or, take, drop, set}
use Rattle.std.proofs.Common.{sym, ap, ◌∙◌, add-one, arith, append_assoc, append-nil, drop-cons, Float, Result, Ok, Err}
use Rattle.std.proofs.lemmas.List.{drop-set-lt, drop_all, take_all, take_more_set, take-append-drop}
use Rattle.std.specs.Float.{nan}
use Rattle.text.specs.declared.reader.Wrong.{Wrong}
use Rattle.text.specs.declared.fields.Field.{Field}
use Rattle.text.specs.Reader.{then, float_from, past_floats, put_over, floats_over, came}

module _ (line : List ℕ) (all : Result (Field (Unit {0})) Wrong) (whole : List Float) where
  -- i floats are read, and what is still to be read from `at` on makes the rest
  pub record Reading (at : ℕ) (row : List Float) (i : ℕ) : Type 0 where
    pub past : all ≡ past_floats (length (drop i row)) line at
    pub over : whole ≡ take i row ++ floats_over line at (drop i row)

  module _ {at : ℕ} {row : List Float} {i : ℕ} (r : Reading at row i) where
    -- what stands where the next float goes, and behind it
    rest : i < length row → drop i row ≡ get_or row i nan ∷ drop (i + 1) row
    rest h = drop-cons row i nan h ∙ ap (λ (n : ℕ). get_or row i nan ∷ drop n row) (sym (add-one i))

    past_next : i < length row → all ≡ then (float_from line at) (λ x. past_floats (length (drop (i + 1) row)) line x.to)
    unfolding past_floats
    past_next h = r.past ∙ ap (λ (l : List Float). past_floats (length l) line at) (rest h)

    over_next
        : i < length row
        → whole ≡ take i row ++ put_over (get_or row i nan) (drop (i + 1) row) (λ to. floats_over line to (drop (i + 1) row)) (float_from line at)
    unfolding floats_over
    over_next h = r.over ∙ ap (λ (l : List Float). take i row ++ floats_over line at l) (rest h)

    -- a float more
    pub more : {x : Float} {to : ℕ} → i < length row → came (Ok x) to ≡ float_from line at → Reading to (set row i x) (i + 1)
    more {x} {to} h e =
        let same : drop (i + 1) (set row i x) ≡ drop (i + 1) row = drop-set-lt (i + 1) row i x (omega arith) in
        record {
          past = past_next h ∙ simp (sym e) (ap (λ (l : List Float). past_floats (length l) line to) (sym same));
          over = over_next h ∙ simp (sym e, same) (sym (ap (λ (l : List Float). l ++ floats_over line to (drop (i + 1) row)) (take_more_set row i x h)
              ∙ append_assoc (take i row) (x ∷ []) (floats_over line to (drop (i + 1) row))));
        }

    -- none in form
    pub stopped : {w : Wrong} (to : ℕ) → i < length row → came {A = Float} (Err w) to ≡ float_from line at → (Err w ≡ all) × (row ≡ whole)
    stopped to h e = (
      sym (past_next h ∙ simp (sym e)),
      sym (over_next h ∙ simp (sym e) (ap (λ (l : List Float). take i row ++ l) (sym (rest h)) ∙ take-append-drop i row)),
    )

    pub ended : length row ≤ i → (came (Ok tt) at ≡ all) × (row ≡ whole)
    unfolding past_floats floats_over
    ended h = (sym (r.past ∙ simp (drop_all i row h)), sym (r.over ∙ simp (drop_all i row h) (append-nil (take i row)) ∙ take_all i row h))
