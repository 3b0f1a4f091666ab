-- What the theorems on the root speak of beside its definition. No contract cites these.
use Rattle.std.specs.Prelude.{ℕ, ◌+◌, ◌-◌, ◌*◌, ◌/◌, ◌%◌, ◌^◌, ◌≤◌, ◌<◌, cond, ltb}

-- a pattern's number in units of 2 ^ -1074
unfoldable pub count : ℕ → ℕ
count b = cond (ltb b (2 ^ 52)) b ((b % 2 ^ 52 + 2 ^ 52) * 2 ^ (b / 2 ^ 52 - 1))

-- q is the whole number nearest to the root of w: q - 1/2 is below it, and q + 1/2 above
pub record Nears (w q : ℕ) : Type 0 where
  pub over : q * q < w + q
  pub under : w ≤ q * q + q
