-- Request 4, "Jumping ahead in the draws": the stored tables, and what the request says of them. That "n single draws and one jump of n meet in the same
-- state" is the contract of `jump`. The proof is in JumpLaws.antt. Definitions only.
use Rattle.std.specs.Prelude.{◌≡◌, List, ◌↔◌, ◌≢◌, ℕ, suc, ◌+◌, ◌*◌, ◌^◌, ◌<◌, take, drop, length, get_or}
use Rattle.xorshift.specs.Xorshift.{step_times}
use Rattle.jump.specs.Table.{table}
use Rattle.jump.specs.Apply.{apply}

-- row k of a list of tables: 64 words
abbrev pub row : (k : ℕ) → List ℕ → List ℕ
row k t = take 64 (drop (64 * k) t)

-- table k
abbrev pub table_at : ℕ → List ℕ
table_at k = row k table

pub record Request4 : Type 0 where
  -- "keep 64 tables of 64 words"
  pub tables : length table ≡ 4096
  -- "table k carrying the state over 2^k draws"
  pub carries : (k x : ℕ) → k < 64 → x < 2 ^ 64 → apply (table_at k) x ≡ step_times (2 ^ k) x
  -- so its word i is the state 2^i after 2^k draws
  pub words : (k i : ℕ) → k < 64 → i < 64 → get_or table (64 * k + i) 0 ≡ step_times (2 ^ k) (2 ^ i)
  -- 01: "table k+1 is table k applied twice"
  pub rule : (k x : ℕ) → suc k < 64 → x < 2 ^ 64 → apply (table_at (suc k)) x ≡ apply (table_at k) (apply (table_at k) x)
  -- "two states agree after n draws exactly when they agreed before"
  pub agree : (n x y : ℕ) → x < 2 ^ 64 → y < 2 ^ 64 → (step_times n x ≡ step_times n y) ↔ (x ≡ y)
  -- "no nonzero state becomes zero"
  pub never_zero : (n x : ℕ) → x < 2 ^ 64 → x ≢ 0 → step_times n x ≢ 0
