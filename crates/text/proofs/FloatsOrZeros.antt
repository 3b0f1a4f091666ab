-- A loop that reads floats over a row, which is +0.0 from the first that is out of form on. Assumes nothing.
use Rattle.std.proofs.Common.{◌≡◌, ℕ, ◌+◌, ◌<◌, ◌≤◌, List, [], ◌∷◌, ◌++◌, length, get_or, take, drop, set}
use Rattle.std.proofs.Common.{suc, ◌-◌, replicate, sym, ap, ◌∙◌, add-one, arith, append_assoc, append-nil, drop-cons, length-drop, length-take}
use Rattle.std.proofs.Common.{Float, Result, Ok, Err}
use Rattle.std.proofs.lemmas.List.{drop-set-lt, drop_all, take_all, take_more_set}
use Rattle.std.specs.Float.{nan, binary64}
use Rattle.std.specs.Float.Ieee.{of_bits}
use Rattle.text.specs.declared.reader.Wrong.{Wrong}
use Rattle.text.specs.declared.fields.Field.{Field}
use Rattle.text.specs.Reader.{then, float_from, past_floats, put_or_zeros, floats_or_zeros, came, left_at}

module _ (line : List ℕ) (all : Result (Field (Unit {0})) Wrong) (whole : List Float) where
  -- i floats are read, and what is still to be read from `at` on makes the rest
  pub record Reading (at : ℕ) (row : List Float) (i : ℕ) : Type 0 where
    pub past : all ≡ past_floats (length (drop i row)) line at
    pub over : whole ≡ take i row ++ floats_or_zeros line at (drop i row)

  module _ {at : ℕ} {row : List Float} {i : ℕ} (r : Reading at row i) where
    -- what stands where the next float goes, and behind it
    rest : i < length row → drop i row ≡ get_or row i nan ∷ drop (i + 1) row
    rest h = drop-cons row i nan h ∙ ap (λ (n : ℕ). get_or row i nan ∷ drop n row) (sym (add-one i))

    past_next : i < length row → all ≡ then (float_from line at) (λ x. past_floats (length (drop (i + 1) row)) line x.to)
    unfolding past_floats
    past_next h = r.past ∙ ap (λ (l : List Float). past_floats (length l) line at) (rest h)

    over_next
        : i < length row
        → whole ≡ take i row ++ put_or_zeros (drop (i + 1) row) (λ to. floats_or_zeros line to (drop (i + 1) row)) (float_from line at)
    unfolding floats_or_zeros
    over_next h = r.over ∙ ap (λ (l : List Float). take i row ++ floats_or_zeros line at l) (rest h)

    -- a float more
    pub more : {x : Float} {to : ℕ} → i < length row → came (Ok x) to ≡ float_from line at → Reading to (set row i x) (i + 1)
    more {x} {to} h e =
        let same : drop (i + 1) (set row i x) ≡ drop (i + 1) row = drop-set-lt (i + 1) row i x (omega arith) in
        record {
          past = past_next h ∙ simp (sym e) (ap (λ (l : List Float). past_floats (length l) line to) (sym same));
          over = over_next h ∙ simp (sym e, same) (sym (ap (λ (l : List Float). l ++ floats_or_zeros line to (drop (i + 1) row)) (take_more_set row i x h)
              ∙ append_assoc (take i row) (x ∷ []) (floats_or_zeros line to (drop (i + 1) row))));
        }

    -- none in form: the line stays there, and the rest of the row is +0.0
    pub stopped
        : {w : Wrong} (to : ℕ)
        → i < length row
        → came {A = Float} (Err w) to ≡ float_from line at
        → to ≡ left_at (float_from line at)
        → (Err w ≡ all) × (to ≡ left_at all) × (take i row ++ replicate (length row - i) (of_bits binary64 0) ≡ whole)
    stopped {w} to h e f =
        let long : suc (length (drop (i + 1) row)) ≡ length row - i = simp length-drop (omega arith) in
        let is : Err w ≡ all = sym (past_next h ∙ simp (sym e)) in (
          is,
          f ∙ ap left_at (sym e) ∙ ap left_at is,
          sym (over_next h ∙ simp (sym e) (ap (λ (n : ℕ). take i row ++ replicate n (of_bits binary64 0)) long)),
        )

    pub ended : length row ≤ i → (came (Ok tt) at ≡ all) × (row ≡ whole)
    unfolding past_floats floats_or_zeros
    ended h = (sym (r.past ∙ simp (drop_all i row h)), sym (r.over ∙ simp (drop_all i row h) (append-nil (take i row)) ∙ take_all i row h))

-- a row of which the part from i on is written over by so many of one number
pub rest_over
    : (row part : List Float) (i : ℕ) (x : Float)
    → part ≡ replicate (length (take (length row - i) (drop i row))) x
    → take i row ++ (part ++ drop (length row - i) (drop i row)) ≡ take i row ++ replicate (length row - i) x
rest_over row part i x e =
    let long : length (take (length row - i) (drop i row)) ≡ length row - i = simp (length-take, length-drop) (omega arith) in
    let all : length (drop i row) ≤ length row - i = simp length-drop (omega arith) in
    ap (λ (l : List Float). take i row ++ (part ++ l)) (drop_all (length row - i) (drop i row) all)
    ∙ ap (λ (l : List Float). take i row ++ l) (append-nil part ∙ e ∙ ap (λ (n : ℕ). replicate n x) long)
