-- Parts of lists of bytes. Definitions only.
use Rattle.std.specs.Prelude.{ℕ, ◌-◌, List, take, drop, ◌==◌}
use Rattle.std.specs.List.{position_or_len}

-- the entries from `from` up to `to`
abbrev pub slice : (from to : ℕ) → List ℕ → List ℕ
slice from to xs = take (to - from) (drop from xs)

-- where the first such byte stands, or the list's length
abbrev pub index_of : ℕ → List ℕ → ℕ
index_of byte xs = position_or_len (λ x. x == byte) xs
