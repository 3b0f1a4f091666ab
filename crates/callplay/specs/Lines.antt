-- The lines of calls. Definitions only.
use Rattle.std.specs.Prelude.{ℕ, cond, List, length, eqb, get_or, Result, Ok}
use Rattle.text.specs.declared.reader.Why.TheVariants.{Kind, Range}
use Rattle.text.specs.declared.reader.Wrong.{Wrong}
use Rattle.text.specs.Fields.{text_of, field_of}
use Rattle.text.specs.Reader.{wrong, then, decimal_from, within_from, past_word}
use Rattle.text.specs.Words.{word_from}
use Rattle.joblines.specs.Line.{kind_from, job_line_from}
use Rattle.joblines.specs.Request.{request_from}
use Rattle.answers.specs.Lines.{whole}
use Rattle.callplay.specs.declared.call.Call.{Call}
use Rattle.callplay.specs.declared.call.Call.TheVariants.{Empty, Admit, Turn, Release, Deal, Fetch, List as Listing}

-- place J id kind ..
abbrev pub admission_from : List ℕ → ℕ → Result Call Wrong
admission_from line at =
    whole line
    (then (decimal_from line at) (λ place.
    then (kind_from 3 line place.to) (λ kind.
    then (job_line_from line kind.to) (λ job.
    then (request_from kind.value job.value line job.to) (λ request.
    Ok (field_of request.to (Admit place.value request.value)))))))

-- place length turns
abbrev pub turns_from : List ℕ → ℕ → Result Call Wrong
turns_from line at =
    whole line
    (then (decimal_from line at) (λ place.
    then (decimal_from line place.to) (λ room.
    then (decimal_from line room.to) (λ turns.
    Ok (field_of turns.to (Turn place.value room.value turns.value))))))

-- turns length
abbrev pub deal_from : List ℕ → ℕ → Result Call Wrong
deal_from line at =
    whole line
    (then (within_from 0 65535 Range line at) (λ turns.
    then (decimal_from line turns.to) (λ room.
    Ok (field_of room.to (Deal turns.value room.value)))))

-- a place alone
abbrev pub release_from : List ℕ → ℕ → Result Call Wrong
release_from line at = whole line (then (decimal_from line at) (λ place. Ok (field_of place.to (Release place.value))))

abbrev pub fetch_from : List ℕ → ℕ → Result Call Wrong
fetch_from line at = whole line (then (decimal_from line at) (λ place. Ok (field_of place.to (Fetch place.value))))

-- nothing behind the name
abbrev pub alone_from : Call → List ℕ → ℕ → Result Call Wrong
alone_from call line at = whole line (Ok (field_of at call))

-- what stands behind a letter: Z, A, T, D, N, F or L; a line of any other name is out of form at its first word
unfoldable pub lettered_from : (letter : ℕ) → List ℕ → ℕ → Result Call Wrong
lettered_from letter line at =
    cond (eqb letter 90) (alone_from Empty line at)
    (cond (eqb letter 65) (admission_from line at)
    (cond (eqb letter 84) (turns_from line at)
    (cond (eqb letter 68) (release_from line at)
    (cond (eqb letter 78) (deal_from line at)
    (cond (eqb letter 70) (fetch_from line at)
    (cond (eqb letter 76) (alone_from Listing line at) (wrong Kind 0)))))))

-- a name has one letter
abbrev pub named_from : (name : List ℕ) → List ℕ → ℕ → Result Call Wrong
named_from name line at = cond (eqb (length name) 1) (lettered_from (get_or name 0 0) line at) (wrong Kind 0)

-- the call of a line
abbrev pub call_of : List ℕ → Result Call Wrong
call_of line = named_from (text_of line (word_from line 0)) line (past_word line 0)
