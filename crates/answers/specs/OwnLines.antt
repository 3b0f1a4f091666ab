-- The lines of the input, answered by a program of which nothing is said. Definitions only.
use Rattle.std.specs.Prelude.{Ok}
use Rattle.streams.specs.declared.console.Console.{Console}
use Rattle.answers.specs.Lines.{LineForm, Giving, AllAnswered}

-- each line that is whole and not blank is the program's
abbrev pub every_line : LineForm
every_line line = Ok tt

-- and what it makes of it is left open
abbrev pub anything : Giving (Unit {0})
anything p o line number q n = Unit {0}

-- all lines are answered, whatever the program is
abbrev pub OwnAnswered : Console → Type 0
OwnAnswered console = AllAnswered every_line anything (λ p o n. Unit {0}) console tt tt
