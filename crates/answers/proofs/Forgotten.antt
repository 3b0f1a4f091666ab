-- What is said of the lines of any program holds with its states left out, where nothing is said of these. Assumes nothing.
use Rattle.std.proofs.Common.{ℕ, Bool, true, false, List, [], ◌∷◌, map, Option, Some, None, refl, ap, ◌∙◌}
use Rattle.std.proofs.lemmas.List.{length-map}
use Rattle.streams.specs.Input.{line_from}
use Rattle.streams.specs.declared.console.Console.{Console}
use Rattle.streams.specs.declared.input.Line.{Line}
use Rattle.streams.specs.declared.output.Output.{Output}
use Rattle.answers.specs.Lines.{Giving, ReplyUnless, WholeOrCut, FoundAnswered, Stand, stand, Steps, OpenStep, LinesAnswered, AllAnswered}
use Rattle.answers.specs.OwnLines.{every_line, anything, OwnAnswered}

module _ {S : Type 0} where
  abbrev own : Giving S
  own p o line number q n = Unit {0}

  abbrev forgotten : Stand S → Stand (Unit {0})
  forgotten s = stand tt s.output s.buffer s.input

  module _ (p : S) (o : Output) (number : ℕ) (q : S) (n : Output) where
    reply : (blank : Bool) (line : List ℕ) → ReplyUnless every_line own p o blank line number q n → ReplyUnless every_line anything tt o blank line number tt n
    reply true line h = (refl, h.1)
    reply false line h = tt

    line-answered
        : (is_cut : Bool) (line : List ℕ)
        → WholeOrCut every_line own p o is_cut line number q n
        → WholeOrCut every_line anything tt o is_cut line number tt n
    line-answered true line h = (refl, h.1)
    line-answered false line h = reply _ line h

  found
      : (p : S) (o : Output) (l : Option Line) (buffer : List ℕ) (q : S) (n : Output)
      → FoundAnswered every_line own p o l buffer q n
      → FoundAnswered every_line anything tt o l buffer tt n
  found p o None buffer q n h = (refl, h.1)
  found p o (Some l) buffer q n h = line-answered p o l.number q n l.is_cut _ h

  open-step : (s t : Stand S) → OpenStep every_line own s t → OpenStep every_line anything (forgotten s) (forgotten t)
  open-step s t h =
      let line = (line_from s.buffer s.input).line in
      let answered = found s.program s.output line s.buffer t.program t.output h.step.answered in
      record { goes_on = h.goes_on; step = record { answered = answered; went_on = h.step.went_on } }

  steps
      : (s : Stand S) (between : List (Stand S)) (t : Stand S)
      → Steps (OpenStep every_line own) s between t
      → Steps (OpenStep every_line anything) (forgotten s) (map forgotten between) (forgotten t)
  steps s [] t e = ap forgotten e
  steps s (m ∷ before) t h = (steps s before m h.0, open-step m t h.1)

  lines : (s t : Stand S) → LinesAnswered every_line own s t → LinesAnswered every_line anything (forgotten s) (forgotten t)
  lines s t h = record {
    between = map forgotten h.between;
    steps = steps s h.between t h.steps;
    ended = λ e. length-map h.between forgotten ∙ h.ended e;
  }

  pub all_forgotten : {console : Console} {p q : S} → AllAnswered every_line own (λ p o n. Unit {0}) console p q → OwnAnswered console
  all_forgotten h = record {
    first = forgotten h.first;
    last = forgotten h.last;
    summed = h.summed;
    begun = (refl, h.begun.1, h.begun.2);
    goes = h.goes;
    lines = lines h.first h.last h.lines;
    sum = tt;
    left = refl;
  }
