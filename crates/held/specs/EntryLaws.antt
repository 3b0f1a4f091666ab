-- The entries of a held job: its variables, its operands, its indices. Assumes nothing.
use Rattle.std.specs.Prelude.{◌≡◌, List, ℕ, ◌-◌, ◌≤◌, ◌<◌, min, Float, length, take, drop}
use Rattle.std.proofs.Common.{sym, ap, ◌∙◌, arith, length-take, length-drop, get_or-take, get_or-drop}
use Rattle.std.specs.Float.{nan}
use Rattle.lists.specs.Tab.{length-tab, get_or-tab, tab-same}
use Rattle.variables.specs.Active.{no_variable, variable_at}
use Rattle.merit.specs.OperandTable.{no_operand, operand_at}
use Rattle.jobs.specs.Entries.{variable_of, operand_of, no_variable_record, no_operand_record}
use Rattle.jobs.specs.Records.{variable_record_at, operand_record_at}
use Rattle.held.specs.JobFrom.{indices_from, variable_record_from, operand_record_from, variable_records_from, operand_records_from, job_record_from}
use Rattle.held.specs.JobFrom.{variables_from}
use Rattle.held.specs.JobFrom.{operands_from}
use Rattle.held.specs.Standing.{whole}

module _ (counts : List ℕ) (numbers : List Float) where
  pub variable-record : (i : ℕ) → i < 8 → variable_record_at (job_record_from counts numbers) i ≡ variable_record_from counts numbers i
  unfolding variable_records_from
  variable-record i h = get_or-tab (variable_record_from counts numbers) 8 i no_variable_record h

  pub operand-record : (n : ℕ) → n < 12 → operand_record_at (job_record_from counts numbers) n ≡ operand_record_from counts numbers n
  unfolding operand_records_from
  operand-record n h = get_or-tab (operand_record_from counts numbers) 12 n no_operand_record h

  pub variable-from : (i : ℕ) → i < 8 → variable_at (variables_from counts numbers) i ≡ variable_of (variable_record_from counts numbers i)
  variable-from i h =
      get_or-tab (λ (k : ℕ). variable_of (variable_record_at (job_record_from counts numbers) k)) 8 i no_variable h ∙ ap variable_of (variable-record i h)

  pub operand-from : (n : ℕ) → n < 12 → operand_at (operands_from counts numbers) n ≡ operand_of (operand_record_from counts numbers n)
  operand-from n h = get_or-tab (λ (k : ℕ). operand_of (operand_record_at (job_record_from counts numbers) k)) 12 n no_operand h
      ∙ ap operand_of (operand-record n h)

-- the indices are a part of the numbers
pub indices-part : (numbers : List Float) → 195 ≤ length numbers → take 64 (drop 64 numbers) ≡ indices_from numbers
unfolding indices_from
indices-part numbers l =
    sym (whole (take 64 (drop 64 numbers)) nan 64 (simp (length-take, length-drop) (long (length numbers) l)))
    ∙ tab-same _ _ 64 (λ k h. get_or-take 64 (drop 64 numbers) k nan h ∙ get_or-drop 64 numbers k nan)
  where
    long : (n : ℕ) → 195 ≤ n → min 64 (n - 64) ≡ 64
    long n l = omega arith

pub indices-long : (numbers : List Float) → length (indices_from numbers) ≡ 64
unfolding indices_from
indices-long numbers = length-tab _ 64
