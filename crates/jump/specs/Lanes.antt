-- A table applied, by sums: each of a word's 64 bits in a lane of seven bits, so that up to 127 words add with no carry from lane to lane, and the xor
-- is each lane's parity. So the rule that each table is the last applied to itself computes in seconds. Definitions only.
use Rattle.std.specs.Prelude.{Bool, true, false, List, [], ◌∷◌, ℕ, zero, suc, ◌+◌, ◌*◌, ◌/◌, ◌%◌, eqb, take, drop}

-- n bits, each into its lane; and n lanes, each to its parity
abbrev pub wide : ℕ → ℕ → ℕ
wide zero x = 0
wide (suc n) x = wide n (x / 2) * 128 + x % 2

abbrev pub parity : ℕ → ℕ → ℕ
parity zero z = 0
parity (suc n) z = parity n (z / 128) * 2 + z % 2

abbrev pub widened : List ℕ → List ℕ
widened [] = []
widened (w ∷ ws) = wide 64 w ∷ widened ws

abbrev pub total : List ℕ → ℕ → ℕ
total [] x = 0
total (w ∷ ws) x = x % 2 * w + total ws (x / 2)

abbrev pub both : Bool → Bool → Bool
both true b = b
both false b = false

-- each word of the third list is the parities of the wide row's total at the word of the second
abbrev pub images : List ℕ → List ℕ → List ℕ → Bool
images row [] ys = true
images row (x ∷ xs) [] = false
images row (x ∷ xs) (y ∷ ys) = both (eqb (parity 64 (total row x)) y) (images row xs ys)

-- n times: the next 64 words are the first 64 applied to themselves
abbrev pub doubled : ℕ → List ℕ → Bool
doubled zero t = true
doubled (suc n) t = both (images (widened (take 64 t)) (take 64 t) (take 64 (drop 64 t))) (doubled n (drop 64 t))
