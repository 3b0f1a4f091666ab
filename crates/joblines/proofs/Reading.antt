-- A loop that reads as many entries as a count says, while the line is in form. Assumes nothing.
use Rattle.std.proofs.Common.{◌≡◌, ℕ, suc, ◌+◌, ◌-◌, ◌<◌, ◌≤◌, List, sym, ap, ◌∙◌, add-one, arith, Result, Ok, Err}
use Rattle.text.specs.declared.reader.Wrong.{Wrong}
use Rattle.text.specs.declared.fields.Field.{Field}
use Rattle.text.specs.Fields.{field_of}
use Rattle.text.specs.Reader.{then, came, left_at}
use Rattle.joblines.specs.Entries.{Form, read_after, put_from}

-- a read that ends at an entry that is out of form leaves the reader before that, as the entry's own did
pub left
    : {A B : Type 0} {w : Wrong} (to : ℕ) {entry : Result (Field A) Wrong} {whole : Result (Field B) Wrong}
    → came {A = A} (Err w) to ≡ entry
    → to ≡ left_at entry
    → Err w ≡ whole
    → to ≡ left_at whole
left to e h k = h ∙ ap left_at (sym e) ∙ ap left_at k

-- what one entry gives to the list
module _ {A B : Type 0} (entry : Form B) (put : B → List A → List A) (l : List A) (line : List ℕ) (at : ℕ) where
  pub laid : {x : B} {to : ℕ} {l' : List A} → came (Ok x) to ≡ entry line at → l' ≡ put x l → Ok (field_of to l') ≡ put_from entry put l line at
  laid {x} {to} e f = ap (λ (m : List A). Ok (field_of to m)) f ∙ simp (sym e)

  pub not-laid : {w : Wrong} (to : ℕ) → came {A = B} (Err w) to ≡ entry line at → Err w ≡ put_from entry put l line at
  not-laid to e = simp (sym e)

module _ {A : Type 0} (read : ℕ → List A → Form (List A)) (line : List ℕ) (count : ℕ) (whole : Result (Field (List A)) Wrong) where
  -- i entries are read, and what is still to be read makes the rest
  pub record Reading (l : List A) (at i : ℕ) : Type 0 where
    pub within : i ≤ count
    pub left : whole ≡ read_after read (count - i) i l line at

  pub begin : (l : List A) (at : ℕ) → whole ≡ read_after read count 0 l line at → Reading l at 0
  begin l at e =
      let none : count ≡ count - 0 = omega arith in
      record { within = omega arith; left = e ∙ ap (λ (n : ℕ). read_after read n 0 l line at) none }

  module _ {l : List A} {at i : ℕ} (r : Reading l at i) where
    next : i < count → whole ≡ then (read i l line at) (λ p. read_after read (count - (i + 1)) (suc i) p.value line p.to)
    unfolding read_after
    next h =
        let one : count - i ≡ suc (count - (i + 1)) = omega arith in
        r.left ∙ ap (λ (n : ℕ). read_after read n i l line at) one

    pub more : {l' : List A} {to : ℕ} → i < count → Ok (field_of to l') ≡ read i l line at → Reading l' to (i + 1)
    more {l'} {to} h e =
        record {
          within = omega arith;
          left = next h ∙ simp (sym e) (ap (λ (k : ℕ). read_after read (count - (i + 1)) k l' line to) (sym (add-one i)));
        }

    pub stopped : {w : Wrong} → i < count → Err w ≡ read i l line at → Err w ≡ whole
    stopped h e = sym (next h ∙ simp (sym e))

    pub ended : count ≤ i → Ok (field_of at l) ≡ whole
    unfolding read_after
    ended h =
        let k : i ≤ count = r.within in
        let none : count - i ≡ 0 = omega arith in
        sym (r.left ∙ ap (λ (n : ℕ). read_after read n i l line at) none)
