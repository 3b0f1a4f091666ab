-- What a job line is answered with behind its head, as texts. Definitions only.
use Rattle.std.specs.Prelude.{ℕ, Bool, true, false, List, [], ◌∷◌, ◌++◌, Option, Some, None}
use Rattle.optics.specs.declared.types.ParaxialProperties.{ParaxialProperties}
use Rattle.optics.specs.declared.types.ParaxialRay.{ParaxialRay}
use Rattle.merit.specs.declared.types.MeritEvaluation.{MeritEvaluation}
use Rattle.intervals.specs.declared.types.TraceLimits.{TraceLimits}
use Rattle.runs.specs.declared.types.OptimizationResult.{OptimizationResult}
use Rattle.streams.specs.declared.output.Output.{Output}
use Rattle.streams.specs.Output.{Puts}
use Rattle.answers.specs.Heads.{kept_text, refused_texts, digest_texts}
use Rattle.answers.specs.Lines.{counted}
use Rattle.answers.specs.Pieces.{number_texts, outcome_texts, lens_texts}
use Rattle.lensanswers.specs.Lens.{evaluation_texts, failed_texts, traced_texts, paraxial_texts, limits_texts}

pub data Reply : Type 0 where
  -- by its number, and whether what was lent is as it was
  refused : (number : ℕ) → (kept : Bool) → Reply
  -- a run: its result, how many turns it took, how many surfaces and operands it has, and the digest of its turns
  played : OptimizationResult → (turns surfaces operands hash : ℕ) → Reply
  evaluated : MeritEvaluation → (operands hash : ℕ) → Reply
  failed : (kept : Bool) → Reply
  -- what was not to be written was
  changed : Reply
  traced : List ParaxialRay → (count : ℕ) → Option ParaxialProperties → Reply
  limited : TraceLimits → (count : ℕ) → Reply

-- the lens in the slot, where it is told
abbrev pub told : Option ParaxialProperties → List (List ℕ)
told (Some properties) = paraxial_texts properties
told None = []

abbrev pub reply_texts : Reply → List (List ℕ)
reply_texts (refused number kept) = refused_texts number kept
reply_texts (played result turns surfaces operands hash) =
    outcome_texts result ++ number_texts [] turns ++ lens_texts result surfaces operands ++ digest_texts hash
reply_texts (evaluated evaluation operands hash) = evaluation_texts evaluation operands ++ digest_texts hash
reply_texts (failed kept) = failed_texts kept
reply_texts changed = kept_text false ∷ []
reply_texts (traced rays count properties) = traced_texts rays count ++ told properties
reply_texts (limited limits count) = limits_texts limits count

-- a refusal is counted
abbrev pub count_of : Reply → Option Bool
count_of (refused number kept) = Some true
count_of (played result turns surfaces operands hash) = None
count_of (evaluated evaluation operands hash) = None
count_of (failed kept) = None
count_of changed = None
count_of (traced rays count properties) = None
count_of (limited limits count) = None

-- these texts, and one of the replies behind them
pub record Tells (head : List (List ℕ)) (o n : Output) : Type 0 where
  pub reply : Reply
  pub puts : Puts (counted (count_of reply) o) (head ++ reply_texts reply) n
