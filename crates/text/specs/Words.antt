-- The words of a line. Definitions only.
use Rattle.std.specs.Prelude.{ℕ, zero, ◌+◌, min, Bool, true, false, cond, List, [], ◌∷◌, length, take, drop, eqb, leb}
use Rattle.std.specs.Bool.{beq}
use Rattle.std.specs.List.{prefix_len}
use Rattle.text.specs.declared.words.Word.{Word}

abbrev pub between : ℕ → ℕ → ℕ → Bool
between low high b = cond (leb low b) (leb b high) false

-- Rust's ASCII whitespace: a space, and 9 to 13 (tab, line feed, form feed, carriage return) but 11
abbrev pub is_blank : ℕ → Bool
is_blank b = cond (eqb b 32) true (cond (eqb b 11) false (between 9 13 b))

-- how many of the first bytes are blank, or are not
abbrev pub leading : Bool → List ℕ → ℕ
leading blank bytes = prefix_len (λ b. beq (is_blank b) blank) bytes

-- the word that begins at `from`
abbrev pub word_at : List ℕ → ℕ → Word
word_at line from = record { from = from; to = from + leading false (drop from line) }

-- the next word from `at` on, past the blanks
abbrev pub word_from : List ℕ → ℕ → Word
word_from line at = let start = min at (length line) in word_at line (start + leading true (drop start line))

-- no word is left from `at` on
abbrev pub none_left : List ℕ → ℕ → Bool
none_left line at = let w = word_from line at in eqb w.from w.to

-- a byte begins a word where it is not blank, and comes between words
abbrev pub begins : (between blank : Bool) → ℕ
begins between blank = cond blank 0 (cond between 1 0)

-- how many words begin among these bytes
unfoldable pub begun : (between : Bool) → List ℕ → ℕ
begun between [] = zero
begun between (b ∷ rest) = begins between (is_blank b) + begun (is_blank b) rest

abbrev pub words_before : List ℕ → ℕ → ℕ
words_before line at = begun true (take at line)

-- two texts are the same, byte for byte
unfoldable pub same_text : List ℕ → List ℕ → Bool
same_text [] [] = true
same_text [] (y ∷ ys) = false
same_text (x ∷ xs) [] = false
same_text (x ∷ xs) (y ∷ ys) = cond (eqb x y) (same_text xs ys) false
