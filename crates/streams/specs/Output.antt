-- What waits in the output's buffer, and numbers as text. Definitions only.
use Rattle.std.specs.Prelude.{◌≡◌, ℕ, zero, suc, ◌+◌, ◌%◌, ◌^◌, ◌≤◌, min, Bool, true, false, cond, List, [], ◌∷◌, ◌++◌, length, take, is_nan, nat_le, nat_lt}
use Rattle.std.specs.Prelude.{to_bits, Float}
use Rattle.std.specs.Float.{binary64}
use Rattle.io.specs.Digits.{last_digits}
use Rattle.streams.specs.declared.output.Waiting.{Waiting}
use Rattle.streams.specs.declared.output.Output.{Output}

-- nothing waits, and no line is answered
abbrev pub new_waiting : Waiting
new_waiting = record { bytes = 0; is_good = true; refused = 0; unknown = 0 }

-- a line more, which is refused or is not
abbrev pub one_refused : Bool → Waiting → Waiting
one_refused is w = record { bytes = w.bytes; is_good = w.is_good; refused = (w.refused + cond is 1 0) % 2 ^ 64; unknown = w.unknown }

-- a line more that is out of form
abbrev pub one_unknown : Waiting → Waiting
one_unknown w = record { bytes = w.bytes; is_good = w.is_good; refused = w.refused; unknown = (w.unknown + 1) % 2 ^ 64 }

-- so many bytes wait
abbrev pub with_bytes : ℕ → Waiting → Waiting
with_bytes n w = record { bytes = n; is_good = w.is_good; refused = w.refused; unknown = w.unknown }

-- no more waits than a buffer of so many bytes holds
abbrev pub clipped : ℕ → Waiting → Waiting
clipped room w = with_bytes (min w.bytes room) w

-- What waits once text is added to what waited, in a buffer of `room` bytes: both where there is room, else the text alone, the rest being written, and nothing
-- where the buffer is too short for the text itself.
unfoldable pub added : ℕ → List ℕ → List ℕ → List ℕ
added room held text =
    cond (nat_le (length held + length text) room) (held ++ text)
    (cond (nat_le (length text) room) text [])

-- once several texts are added, one after the other
unfoldable pub added_all : ℕ → List ℕ → List (List ℕ) → List ℕ
added_all room held [] = held
added_all room held (text ∷ texts) = added_all room (added room held text) texts

-- once they are added to the first `waiting` bytes of `out`
abbrev pub after : ℕ → List ℕ → List (List ℕ) → List ℕ
after waiting out texts = added_all (length out) (take waiting out) texts

-- how many bytes several texts have
unfoldable pub total : List (List ℕ) → ℕ
total [] = 0
total (text ∷ texts) = length text + total texts

-- the same lines were refused and out of form, and a write that failed stays failed
pub record Onward (w r : Waiting) : Type 0 where
  pub refused : r.refused ≡ w.refused
  pub unknown : r.unknown ≡ w.unknown
  pub lost : w.is_good ≡ false → r.is_good ≡ false

-- after n bytes are written nothing waits, and where there were none nothing can have failed
pub record Written (n : ℕ) (w r : Waiting) : Type 0 where
  pub bytes : r.bytes ≡ 0
  pub none : n ≡ 0 → r.is_good ≡ w.is_good
  pub onward : Onward w r

-- after texts are put into a buffer they wait, as `after` says; where all fit into it nothing is written, so that nothing can have failed
pub record Put (w : Waiting) (out : List ℕ) (texts : List (List ℕ)) (r : Waiting) (left : List ℕ) : Type 0 where
  pub held : take r.bytes left ≡ after w.bytes out texts
  pub fits : length (take w.bytes out) + total texts ≤ length out → r.is_good ≡ w.is_good
  pub onward : Onward w r

-- the same output, of which this waits
abbrev pub with_waiting : Waiting → Output → Output
with_waiting w o = record { console = o.console; buffer = o.buffer; waiting = w }

-- a line more, which is refused or is not
abbrev pub with_refused : Bool → Output → Output
with_refused is o = with_waiting (one_refused is o.waiting) o

-- a line more that is out of form
abbrev pub with_unknown : Output → Output
with_unknown o = with_waiting (one_unknown o.waiting) o

-- after texts are put, what waits lies in the buffer, which is the one that was lent, and goes where it went
pub record Puts (o : Output) (texts : List (List ℕ)) (n : Output) : Type 0 where
  pub put : Put o.waiting o.buffer.now texts n.waiting n.buffer.now
  pub within : n.waiting.bytes ≤ length n.buffer.now
  pub room : length n.buffer.now ≡ length o.buffer.now
  pub lent : n.buffer.ghost_name ≡ o.buffer.ghost_name
  pub console : n.console ≡ o.console

abbrev pub blank : List ℕ
blank = 32 ∷ []

unfoldable pub hex_text : ℕ → List ℕ
hex_text x = last_digits 16 16 x

-- how many decimal digits x has, when it is looked for from k on, n times
unfoldable pub places_from : ℕ → ℕ → ℕ → ℕ
places_from zero k x = k
places_from (suc n) k x = cond (nat_lt x (10 ^ k)) k (places_from n (suc k) x)

-- a number below 2 ^ 64 has one to twenty decimal digits, and is written with no zero in front
unfoldable pub decimal_text : ℕ → List ℕ
decimal_text x = last_digits 10 (places_from 19 1 x) x

-- a float is written by its bits, and a NaN as `nan`
unfoldable pub float_text : Float → List ℕ
float_text x = cond (is_nan x) (110 ∷ 97 ∷ 110 ∷ []) (hex_text (to_bits binary64 x))

-- floats, each after a blank
unfoldable pub float_texts : List Float → List (List ℕ)
float_texts [] = []
float_texts (x ∷ row) = blank ∷ float_text x ∷ float_texts row
