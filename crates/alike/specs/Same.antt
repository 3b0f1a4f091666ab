-- Alike bit for bit, every NaN as one: arrays by their lengths and entries, held rows array by array, and benches row by row. Definitions only.
use Rattle.std.specs.Prelude.{Bool, ◌&&◌, List, ℕ, eqb, Float, length, get_or}
use Rattle.std.specs.Float.{nan}
use Rattle.lists.specs.All.{all_below}
use Rattle.text.specs.Numbers.{bits_of}
use Rattle.optics.specs.declared.types.OpticalSurface.{OpticalSurface}
use Rattle.optics.specs.Types.{surface_at}
use Rattle.runs.specs.declared.types.OptimizationResult.{OptimizationResult}
use Rattle.held.specs.declared.types.HeldBest.{HeldBest}
use Rattle.held.specs.declared.types.HeldHead.{HeldHead}
use Rattle.held.specs.declared.types.HeldJob.{HeldJob}
use Rattle.held.specs.declared.types.HeldRow.{HeldRow}
use Rattle.held.specs.declared.types.HeldRun.{HeldRun}
use Rattle.bench.specs.declared.types.Bench.{Bench}
use Rattle.bench.specs.Benches.{held_at}

-- ---- arrays
abbrev pub same_float : Float → Float → Bool
same_float x y = eqb (bits_of x) (bits_of y)

-- as many entries, each alike; `none` stands for one that there is not
abbrev pub same_list : {A : Type 0} → (alike : A → A → Bool) → (none : A) → List A → List A → Bool
same_list alike none a b = eqb (length a) (length b) && all_below (λ (i : ℕ). alike (get_or a i none) (get_or b i none)) (length a)

abbrev pub same_floats : List Float → List Float → Bool
same_floats = same_list same_float nan

abbrev pub same_words : List ℕ → List ℕ → Bool
same_words = same_list eqb 0

-- ---- held rows and benches
abbrev pub same_job : HeldJob → HeldJob → Bool
same_job a b = same_words a.counts b.counts && same_floats a.numbers b.numbers

abbrev pub same_head : HeldHead → HeldHead → Bool
same_head a b = same_words a.words b.words && same_floats a.scalars b.scalars

-- the lens that a run has come to, and what its step has
abbrev pub same_lens : HeldRun → HeldRun → Bool
same_lens a b = same_floats a.surfaces b.surfaces && (same_floats a.values b.values && same_floats a.residuals b.residuals)

abbrev pub same_step : HeldRun → HeldRun → Bool
same_step a b =
    same_floats a.jacobian b.jacobian
    && (same_floats a.plus_residuals b.plus_residuals && (same_floats a.params b.params && same_floats a.candidate b.candidate))

-- both
abbrev pub same_run : HeldRun → HeldRun → Bool
same_run a b =
    same_floats a.surfaces b.surfaces && (same_floats a.values b.values && (same_floats a.residuals b.residuals && same_step a b))

abbrev pub same_best : HeldBest → HeldBest → Bool
same_best a b = same_floats a.surfaces b.surfaces && (same_floats a.values b.values && same_floats a.residuals b.residuals)

abbrev pub same_row : HeldRow → HeldRow → Bool
same_row a b = same_job a.job b.job && (same_head a.head b.head && (same_run a.run b.run && same_best a.best b.best))

abbrev pub same_rows : Bench → Bench → Bool
same_rows a b = all_below (λ (place : ℕ). same_row (held_at a place) (held_at b place)) 4

abbrev pub same_bench : Bench → Bench → Bool
same_bench a b = same_rows a b && eqb a.next_place b.next_place

-- ---- results
abbrev pub same_surface : OpticalSurface → OpticalSurface → Bool
same_surface a b =
    same_float a.radius_mm b.radius_mm
    && (same_float a.conic_constant b.conic_constant
    && (same_float a.thickness_mm b.thickness_mm && same_float a.semi_diameter_mm b.semi_diameter_mm))

abbrev pub same_surfaces : List OpticalSurface → List OpticalSurface → Bool
same_surfaces a b = all_below (λ (i : ℕ). same_surface (surface_at a i) (surface_at b i)) 16

abbrev pub same_merits : OptimizationResult → OptimizationResult → Bool
same_merits a b =
    same_float a.initial_merit b.initial_merit
    && (same_float a.final_merit b.final_merit && (eqb a.iterations b.iterations && eqb a.converged b.converged))

abbrev pub same_result : OptimizationResult → OptimizationResult → Bool
same_result a b =
    same_merits a b && (same_surfaces a.surfaces b.surfaces && (same_floats a.values b.values && same_floats a.residuals b.residuals))
