-- Entries that a count stands before. They are read one after the other, and once the line is out of form no more of them are. Definitions only.
use Rattle.std.specs.Prelude.{ℕ, zero, suc, cond, List, length, ltb, set, Result, Ok}
use Rattle.text.specs.declared.fields.Field.{Field}
use Rattle.text.specs.declared.reader.Wrong.{Wrong}
use Rattle.text.specs.Fields.{field_of}
use Rattle.text.specs.Reader.{then}

-- what is read of a line from a place on
abbrev pub Form : Type 0 → Type 0
Form A = List ℕ → ℕ → Result (Field A) Wrong

-- n entries more, of which the first is number i, where `read i l` reads entry i into a list
unfoldable pub read_after : {A : Type 0} (read : ℕ → List A → Form (List A)) → (n i : ℕ) → List A → Form (List A)
read_after read zero i l line at = Ok (field_of at l)
read_after read (suc n) i l line at = then (read i l line at) (λ r. read_after read n (suc i) r.value line r.to)

-- entry i at its place, where there is room for it
abbrev pub stored_at : {A : Type 0} (room i : ℕ) → A → List A → List A
stored_at room i x l = cond (ltb i room) (set l i x) l

-- what `entry` reads, put into a list by `put`
abbrev pub put_from : {A B : Type 0} (entry : Form B) (put : B → List A → List A) → List A → Form (List A)
put_from entry put l line at = then (entry line at) (λ x. Ok (field_of x.to (put x.value l)))

-- so many entries, of which those that there is room for take the places of what stood in the list
abbrev pub entries_from : {A : Type 0} (entry : Form A) → (count : ℕ) → List A → Form (List A)
entries_from entry count unread = read_after (λ i. put_from entry (stored_at (length unread) i)) count 0 unread
