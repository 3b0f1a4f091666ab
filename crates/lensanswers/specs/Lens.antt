-- What answers say of a lens by itself, each a list of texts. Definitions only.
use Rattle.std.specs.Prelude.{ℕ, zero, suc, min, Bool, List, [], ◌∷◌, ◌++◌, take, get_or}
use Rattle.optics.specs.declared.types.ParaxialProperties.{ParaxialProperties}
use Rattle.optics.specs.declared.types.ParaxialRay.{ParaxialRay}
use Rattle.merit.specs.declared.types.MeritEvaluation.{MeritEvaluation}
use Rattle.intervals.specs.Interval.{no_interval}
use Rattle.intervals.specs.declared.types.Interval.{Interval}
use Rattle.intervals.specs.declared.types.TraceLimits.{TraceLimits}
use Rattle.streams.specs.Output.{float_text, float_texts}
use Rattle.answers.specs.Entries.{all_texts, ray_texts}
use Rattle.answers.specs.Heads.{kept_text}
use Rattle.answers.specs.Pieces.{number_texts, row_texts, mark}

-- ` M ` total ` V ` m {values} ` D ` m {residuals}
abbrev pub evaluation_texts : MeritEvaluation → ℕ → List (List ℕ)
evaluation_texts e m =
    ((32 ∷ 77 ∷ 32 ∷ []) ∷ float_text e.total_merit ∷ []) ++ row_texts (mark 86) e.values m ++ row_texts (mark 68) e.residuals m

-- ` failed`
abbrev pub failed_texts : Bool → List (List ℕ)
failed_texts kept = (32 ∷ 102 ∷ 97 ∷ 105 ∷ 108 ∷ 101 ∷ 100 ∷ []) ∷ kept_text kept ∷ []

-- the first n rays
abbrev pub rays_texts : List ParaxialRay → ℕ → List (List ℕ)
rays_texts rays n = all_texts ray_texts (take n rays)

-- ` ok T ` n {ray}
abbrev pub traced_texts : List ParaxialRay → ℕ → List (List ℕ)
traced_texts rays n = number_texts (32 ∷ 111 ∷ 107 ∷ 32 ∷ 84 ∷ []) n ++ rays_texts rays (min n 16)

-- ` P` efl bfl f-number
abbrev pub paraxial_texts : ParaxialProperties → List (List ℕ)
paraxial_texts q = (mark 80 ∷ float_texts (q.efl_mm ∷ q.bfl_mm ∷ q.f_number ∷ [])) ++ ((10 ∷ []) ∷ [])

-- ` K` least greatest
abbrev pub track_texts : Interval → List (List ℕ)
track_texts track = mark 75 ∷ float_texts (track.low ∷ track.high ∷ [])

-- the least and the greatest height, the least and the greatest slope
abbrev pub ends_texts : Interval → Interval → List (List ℕ)
ends_texts height slope = float_texts (height.low ∷ height.high ∷ slope.low ∷ slope.high ∷ [])

-- those of the first n surfaces
unfoldable pub all_ends_texts : (heights slopes : List Interval) → ℕ → List (List ℕ)
all_ends_texts heights slopes zero = []
all_ends_texts heights slopes (suc n) = all_ends_texts heights slopes n ++ ends_texts (get_or heights n no_interval) (get_or slopes n no_interval)

-- ` K` least greatest ` T ` n {ends}
abbrev pub limits_texts : TraceLimits → ℕ → List (List ℕ)
limits_texts traced n =
    track_texts traced.track ++ number_texts (mark 84) n ++ all_ends_texts traced.heights traced.slopes (min n 16) ++ ((10 ∷ []) ∷ [])
