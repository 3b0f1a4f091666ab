-- What is compared with itself is alike. Assumes nothing.
use Rattle.std.specs.Prelude.{◌≡◌, refl, Bool, true, false, ◌&&◌, List, ℕ, Float, length, get_or}
use Rattle.std.proofs.Common.{eq-eqb}
use Rattle.std.specs.Float.{nan}
use Rattle.std.specs.Float.Ieee.Bits.{is_true}
use Rattle.lists.specs.All.{all_below, all_from}
use Rattle.optics.specs.declared.types.OpticalSurface.{OpticalSurface}
use Rattle.optics.specs.Types.{surface_at}
use Rattle.runs.specs.declared.types.OptimizationResult.{OptimizationResult}
use Rattle.held.specs.declared.types.HeldBest.{HeldBest}
use Rattle.held.specs.declared.types.HeldHead.{HeldHead}
use Rattle.held.specs.declared.types.HeldJob.{HeldJob}
use Rattle.held.specs.declared.types.HeldRow.{HeldRow}
use Rattle.held.specs.declared.types.HeldRun.{HeldRun}
use Rattle.bench.specs.declared.types.Bench.{Bench}
use Rattle.bench.specs.Benches.{held_at}
use Rattle.alike.specs.Same.{same_floats, same_words, same_job, same_head, same_run, same_best, same_row, same_bench, same_surface, same_result}
use Rattle.alike.proofs.FloatItself.{float}
use Rattle.alike.proofs.SameLaws.{all_alike}

and : (p q : Bool) → p ≡ true → q ≡ true → (p && q) ≡ true
and true q e f = f
and false q e f = e

all : (alike : ℕ → Bool) (n : ℕ) → ((i : ℕ) → alike i ≡ true) → all_below alike n ≡ true
all alike n h = is_true (all_below alike n) (all_from alike n (λ i l. rw (h i) tt))

floats : (a : List Float) → same_floats a a ≡ true
floats a = all_alike (length a) (length a) _ refl (all _ (length a) (λ i. float (get_or a i nan)))

words : (a : List ℕ) → same_words a a ≡ true
words a = all_alike (length a) (length a) _ refl (all _ (length a) (λ i. eq-eqb (get_or a i 0) (get_or a i 0) refl))

pub job : (a : HeldJob) → same_job a a ≡ true
job a = and _ _ (words a.counts) (floats a.numbers)

pub head : (a : HeldHead) → same_head a a ≡ true
head a = and _ _ (words a.words) (floats a.scalars)

pub run : (a : HeldRun) → same_run a a ≡ true
run a =
    and _ _ (floats a.surfaces) (and _ _ (floats a.values) (and _ _ (floats a.residuals) (and _ _ (floats a.jacobian)
    (and _ _ (floats a.plus_residuals) (and _ _ (floats a.params) (floats a.candidate))))))

pub best : (a : HeldBest) → same_best a a ≡ true
best a = and _ _ (floats a.surfaces) (and _ _ (floats a.values) (floats a.residuals))

pub row : (a : HeldRow) → same_row a a ≡ true
row a = and _ _ (job a.job) (and _ _ (head a.head) (and _ _ (run a.run) (best a.best)))

pub bench-alike : (a : Bench) → same_bench a a ≡ true
bench-alike a = and _ _ (all _ 4 (λ place. row (held_at a place))) (eq-eqb a.next_place a.next_place refl)

pub surface : (s : OpticalSurface) → same_surface s s ≡ true
surface s =
    and _ _ (float s.radius_mm) (and _ _ (float s.conic_constant) (and _ _ (float s.thickness_mm) (float s.semi_diameter_mm)))

pub result-alike : (r : OptimizationResult) → same_result r r ≡ true
result-alike r =
    and _ _
    (and _ _ (float r.initial_merit) (and _ _ (float r.final_merit)
    (and _ _ (eq-eqb r.iterations r.iterations refl) (eq-eqb r.converged r.converged refl))))
    (and _ _ (all _ 16 (λ i. surface (surface_at r.surfaces i))) (and _ _ (floats r.values) (floats r.residuals)))
