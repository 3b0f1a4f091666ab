-- What is alike is equal, where 64 bits hold every number of it: a comparison leaves no array out, and no number. Assumes nothing.
use Rattle.std.specs.Prelude.{◌≡◌, refl, Bool, true, false, ◌&&◌, List, ℕ, T, eqb, Float, length, get_or}
use Rattle.std.proofs.Common.{sym, ap, subst, ◌∙◌, eqb-true, ext_get_or}
use Rattle.std.specs.Float.{nan, inf, fin, binary64}
use Rattle.std.specs.Float.Ieee.{fits, is_nan, of_bits}
use Rattle.std.specs.Float.Ieee.Bits.{of_bits-to_bits, is_true}
use Rattle.lists.specs.All.{all_below, all-at}
use Rattle.text.specs.Numbers.{bits_of}
use Rattle.optics.specs.declared.types.OpticalSurface.{OpticalSurface}
use Rattle.optics.specs.Types.{no_surface, surface_at}
use Rattle.runs.specs.declared.types.OptimizationResult.{OptimizationResult}
use Rattle.held.specs.declared.types.HeldBest.{HeldBest}
use Rattle.held.specs.declared.types.HeldHead.{HeldHead}
use Rattle.held.specs.declared.types.HeldJob.{HeldJob}
use Rattle.held.specs.declared.types.HeldRow.{HeldRow}
use Rattle.held.specs.declared.types.HeldRun.{HeldRun}
use Rattle.bench.specs.declared.types.Bench.{Bench}
use Rattle.bench.specs.Benches.{no_row, held_at}
use Rattle.alike.specs.Same.{same_float, same_floats, same_words, same_job, same_head, same_lens, same_step, same_run, same_best, same_row, same_bench}
use Rattle.alike.specs.Same.{same_surface, same_surfaces, same_merits, same_result}

-- ---- what 64 bits hold
abbrev Fits : Float → Type 0
Fits x = T (fits binary64 x)

abbrev AllFit : List Float → Type 0
AllFit l = (i : ℕ) → Fits (get_or l i nan)

pub record RunFits (r : HeldRun) : Type 0 where
  pub surfaces : AllFit r.surfaces
  pub jacobian : AllFit r.jacobian
  pub values : AllFit r.values
  pub residuals : AllFit r.residuals
  pub plus_residuals : AllFit r.plus_residuals
  pub params : AllFit r.params
  pub candidate : AllFit r.candidate

pub record BestFits (b : HeldBest) : Type 0 where
  pub surfaces : AllFit b.surfaces
  pub values : AllFit b.values
  pub residuals : AllFit b.residuals

pub record RowFits (r : HeldRow) : Type 0 where
  pub scalars : AllFit r.head.scalars
  pub numbers : AllFit r.job.numbers
  pub run : RunFits r.run
  pub best : BestFits r.best

pub record BenchFits (b : Bench) : Type 0 where
  pub rows : (place : ℕ) → RowFits (held_at b place)
  pub four : length b.rows ≡ 4

pub record SurfaceFits (s : OpticalSurface) : Type 0 where
  pub radius : Fits s.radius_mm
  pub conic : Fits s.conic_constant
  pub thickness : Fits s.thickness_mm
  pub semi_diameter : Fits s.semi_diameter_mm

pub record ResultFits (r : OptimizationResult) : Type 0 where
  pub surfaces : (i : ℕ) → SurfaceFits (surface_at r.surfaces i)
  pub sixteen : length r.surfaces ≡ 16
  pub values : AllFit r.values
  pub residuals : AllFit r.residuals
  pub initial : Fits r.initial_merit
  pub final : Fits r.final_merit

-- ---- numbers and arrays
both : {A B : Type 0} (p q : Bool) → (p ≡ true → A) → (q ≡ true → B) → (p && q) ≡ true → A × B
both true q f g e = (f refl, g e)
both false q f g e = absurd (subst T (sym e) tt)

bits_back : (x : Float) → Fits x → of_bits binary64 (bits_of x) ≡ x
unfolding bits_of is_nan of_bits
bits_back nan h = refl
bits_back (inf s) h = of_bits-to_bits binary64 (inf s) h
bits_back (fin s m e) h = of_bits-to_bits binary64 (fin s m e) h

one_float : (x y : Float) → Fits x → Fits y → same_float x y ≡ true → x ≡ y
one_float x y f g e = sym (bits_back x f) ∙ ap (λ (bits : ℕ). of_bits binary64 bits) (eqb-true (bits_of x) (bits_of y) e) ∙ bits_back y g

one_list : {A : Type 0} (a b : List A) (d : A) (alike : ℕ → Bool) (n : ℕ) → length a ≡ n → length b ≡ n
    → ((i : ℕ) → alike i ≡ true → get_or a i d ≡ get_or b i d) → all_below alike n ≡ true → a ≡ b
one_list a b d alike n la lb one e = ext_get_or d a b (la ∙ sym lb) (λ i h. one i (is_true (alike i) (all-at alike n i (rw e tt) (rw la at h))))

-- lengths are compared first
one-long : {A : Type 0} (a b : List A) (d : A) (alike : ℕ → Bool) → ((i : ℕ) → alike i ≡ true → get_or a i d ≡ get_or b i d)
    → (eqb (length a) (length b) && all_below alike (length a)) ≡ true → a ≡ b
one-long a b d alike one e =
    let long = both _ _ (eqb-true (length a) (length b)) (λ all. all) e in
    one_list a b d alike (length a) refl (sym long.0) one long.1

one-array : (a b : List Float) → AllFit a → AllFit b → same_floats a b ≡ true → a ≡ b
one-array a b f g = one-long a b nan _ (λ i. one_float (get_or a i nan) (get_or b i nan) (f i) (g i))

one-words : (a b : List ℕ) → same_words a b ≡ true → a ≡ b
one-words a b = one-long a b 0 _ (λ i. eqb-true (get_or a i 0) (get_or b i 0))

-- ---- held rows and benches
one-job : (a b : HeldJob) → AllFit a.numbers → AllFit b.numbers → same_job a b ≡ true → a ≡ b
one-job a b f g e =
    let parts = both _ _ (one-words a.counts b.counts) (one-array a.numbers b.numbers f g) e in
    λ i. record { counts = parts.0 i; numbers = parts.1 i }

one-head : (a b : HeldHead) → AllFit a.scalars → AllFit b.scalars → same_head a b ≡ true → a ≡ b
one-head a b f g e =
    let parts = both _ _ (one-words a.words b.words) (one-array a.scalars b.scalars f g) e in
    λ i. record { words = parts.0 i; scalars = parts.1 i }

module _ (a b : HeldRun) (f : RunFits a) (g : RunFits b) where
  one-lens : same_lens a b ≡ true → (a.surfaces ≡ b.surfaces) × ((a.values ≡ b.values) × (a.residuals ≡ b.residuals))
  one-lens = both _ _ (one-array a.surfaces b.surfaces f.surfaces g.surfaces) (
      both _ _ (one-array a.values b.values f.values g.values) (one-array a.residuals b.residuals f.residuals g.residuals))

  one-step : same_step a b ≡ true
      → (a.jacobian ≡ b.jacobian) × ((a.plus_residuals ≡ b.plus_residuals) × ((a.params ≡ b.params) × (a.candidate ≡ b.candidate)))
  one-step = both _ _ (one-array a.jacobian b.jacobian f.jacobian g.jacobian) (
      both _ _ (one-array a.plus_residuals b.plus_residuals f.plus_residuals g.plus_residuals) (
      both _ _ (one-array a.params b.params f.params g.params) (one-array a.candidate b.candidate f.candidate g.candidate)))

one-run : (a b : HeldRun) → RunFits a → RunFits b → same_run a b ≡ true → a ≡ b
one-run a b f g e =
    let parts = both _ _ (one-array a.surfaces b.surfaces f.surfaces g.surfaces) (
    both _ _ (one-array a.values b.values f.values g.values) (
    both _ _ (one-array a.residuals b.residuals f.residuals g.residuals) (one-step a b f g))) e in
    λ i. record {
      surfaces = parts.0 i;
      jacobian = parts.1.1.1.0 i;
      values = parts.1.0 i;
      residuals = parts.1.1.0 i;
      plus_residuals = parts.1.1.1.1.0 i;
      params = parts.1.1.1.1.1.0 i;
      candidate = parts.1.1.1.1.1.1 i;
    }

one-best : (a b : HeldBest) → BestFits a → BestFits b → same_best a b ≡ true → a ≡ b
one-best a b f g e =
    let parts = both _ _ (one-array a.surfaces b.surfaces f.surfaces g.surfaces) (
    both _ _ (one-array a.values b.values f.values g.values) (one-array a.residuals b.residuals f.residuals g.residuals)) e in
    λ i. record { surfaces = parts.0 i; values = parts.1.0 i; residuals = parts.1.1 i }

pub one-row : (a b : HeldRow) → RowFits a → RowFits b → same_row a b ≡ true → a ≡ b
one-row a b f g e =
    let parts = both _ _ (one-job a.job b.job f.numbers g.numbers) (
    both _ _ (one-head a.head b.head f.scalars g.scalars) (
    both _ _ (one-run a.run b.run f.run g.run) (one-best a.best b.best f.best g.best))) e in
    λ i. record { head = parts.1.0 i; job = parts.0 i; run = parts.1.1.0 i; best = parts.1.1.1 i }

pub one-bench : (a b : Bench) → BenchFits a → BenchFits b → same_bench a b ≡ true → a ≡ b
one-bench a b f g e =
    let parts = both _ _
    (one_list a.rows b.rows no_row _ 4 f.four g.four (λ place. one-row (held_at a place) (held_at b place) (f.rows place) (g.rows place)))
    (eqb-true a.next_place b.next_place) e in
    λ i. record { rows = parts.0 i; next_place = parts.1 i }

-- ---- results
one-surface : (a b : OpticalSurface) → SurfaceFits a → SurfaceFits b → same_surface a b ≡ true → a ≡ b
one-surface a b f g e =
    let parts = both _ _ (one_float a.radius_mm b.radius_mm f.radius g.radius) (
    both _ _ (one_float a.conic_constant b.conic_constant f.conic g.conic) (
    both _ _ (one_float a.thickness_mm b.thickness_mm f.thickness g.thickness) (
    one_float a.semi_diameter_mm b.semi_diameter_mm f.semi_diameter g.semi_diameter))) e in
    λ i. record {
      radius_mm = parts.0 i;
      conic_constant = parts.1.0 i;
      thickness_mm = parts.1.1.0 i;
      semi_diameter_mm = parts.1.1.1 i;
    }

module _ (a b : OptimizationResult) (f : ResultFits a) (g : ResultFits b) where
  one-merits : same_merits a b ≡ true
      → (a.initial_merit ≡ b.initial_merit) × ((a.final_merit ≡ b.final_merit) × ((a.iterations ≡ b.iterations) × (a.converged ≡ b.converged)))
  one-merits = both _ _ (one_float a.initial_merit b.initial_merit f.initial g.initial) (
      both _ _ (one_float a.final_merit b.final_merit f.final g.final) (
      both _ _ (eqb-true a.iterations b.iterations) (eqb-true a.converged b.converged)))

  one-surfaces : same_surfaces a.surfaces b.surfaces ≡ true → a.surfaces ≡ b.surfaces
  one-surfaces =
      one_list a.surfaces b.surfaces no_surface _ 16 f.sixteen g.sixteen
      (λ i. one-surface (surface_at a.surfaces i) (surface_at b.surfaces i) (f.surfaces i) (g.surfaces i))

  pub one-result : same_result a b ≡ true → a ≡ b
  one-result e =
      let parts = both _ _ one-merits (both _ _ one-surfaces (
      both _ _ (one-array a.values b.values f.values g.values) (one-array a.residuals b.residuals f.residuals g.residuals))) e in
      λ i. record {
        surfaces = parts.1.0 i;
        values = parts.1.1.0 i;
        residuals = parts.1.1.1 i;
        initial_merit = parts.0.0 i;
        final_merit = parts.0.1.0 i;
        iterations = parts.0.1.1.0 i;
        converged = parts.0.1.1.1 i;
      }
