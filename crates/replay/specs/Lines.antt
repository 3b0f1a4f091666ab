-- The job lines of the program. Definitions only.
use Rattle.std.specs.Prelude.{◌≡◌, ℕ, ◌||◌, Bool, true, cond, List, eqb, Result, Ok}
use Rattle.text.specs.declared.reader.Wrong.{Wrong}
use Rattle.text.specs.Fields.{field_of}
use Rattle.text.specs.Reader.{then, decimal_from}
use Rattle.joblines.specs.declared.line.JobLine.{JobLine}
use Rattle.joblines.specs.Entries.{Form}
use Rattle.joblines.specs.Limits.{limits_from}
use Rattle.joblines.specs.Line.{kind_from, job_line_from}
use Rattle.joblines.specs.Request.{request_from}
use Rattle.streams.specs.declared.output.Output.{Output}
use Rattle.answers.specs.Heads.{head_texts}
use Rattle.answers.specs.Lines.{whole}
use Rattle.replay.specs.declared.Replay.{Replay}
use Rattle.replay.specs.Moves.{Moves}
use Rattle.replay.specs.Replies.{Tells}

-- a slot
abbrev pub slot_from : Form (Unit {0})
slot_from line at = then (decimal_from line at) (λ slot. Ok (field_of slot.to tt))

-- a slot, and a pair for each of so many surfaces
abbrev pub within_limits_from : (count : ℕ) → Form (Unit {0})
within_limits_from count line at = then (limits_from count line at) (λ limits. Ok (field_of limits.to tt))

-- the settings of a run
abbrev pub run_from : (kind : ℕ) → JobLine → Form (Unit {0})
run_from kind job line at = then (request_from kind job line at) (λ request. Ok (field_of request.to tt))

-- what stands behind the lens of a line of this kind: of 4 nothing, of 5 a slot, of 6 a slot and limits, of the others a run's settings
unfoldable pub settings_from : (kind : ℕ) → JobLine → Form (Unit {0})
settings_from kind job line at =
    cond (eqb kind 4) (Ok (field_of at tt))
    (cond (eqb kind 5) (slot_from line at)
    (cond (eqb kind 6) (within_limits_from job.prescription.surface_count line at) (run_from kind job line at)))

-- J id kind S .. C settings, and nothing behind it
abbrev pub job_form : List ℕ → Result (Unit {0}) Wrong
job_form line = whole line (then (kind_from 6 line 0) (λ kind. then (job_line_from line kind.to) (λ job. settings_from kind.value job.value line job.to)))

-- kinds 4 to 6 play nothing
abbrev pub stands_alone : (kind : ℕ) → Bool
stands_alone kind = eqb kind 4 || eqb kind 5 || eqb kind 6

-- the answer to a line of this kind begins with its id and kind; the bench is moved by calls alone, and by none where nothing is played
pub record Done (kind : ℕ) (p : Replay) (o : Output) (line : List ℕ) (q : Replay) (n : Output) : Type 0 where
  pub answer : Tells (head_texts line kind) o n
  pub moved : Moves p.bench q.bench
  pub alone : stands_alone kind ≡ true → q ≡ p

-- so is a line answered, of the kind that it has
pub record Answered (p : Replay) (o : Output) (line : List ℕ) (number : ℕ) (q : Replay) (n : Output) : Type 0 where
  pub kind : ℕ
  pub behind : ℕ
  pub is : kind_from 6 line 0 ≡ Ok (field_of behind kind)
  pub done : Done kind p o line q n
