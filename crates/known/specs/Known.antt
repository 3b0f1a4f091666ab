-- The known values of document 01 that are marked to be proved, and that drawings are admitted, as one table of the definitions under one lemma. Assumes
-- nothing.
use Rattle.std.specs.Prelude.{◌≡◌, refl, true, false, List, [], ◌∷◌, Float, replicate, Ok}
use Rattle.std.specs.Float.{inf}
use Rattle.std.specs.Float.Ieee.{neg, lt, le, add, sub, mul, div, is_nan, of_bits}
use Rattle.floats.specs.Basic.{magnitude, finite_of}
use Rattle.floats.specs.Constants.{zero64}
use Rattle.floats.specs.Sqrt.{sqrt_of}
use Rattle.lists.specs.Tab.{tab}
use Rattle.lists.specs.All.{all_below}
use Rattle.xorshift.specs.Xorshift.{step_of, seeded, step_times}
use Rattle.optics.specs.Curvature
use Rattle.optics.specs.Trace.{ray_of, arriving}
use Rattle.optics.specs.Properties.{paraxial_of}
use Rattle.optics.specs.Check.{within, above_zero_up_to, surface_taken, lens_taken}
use Rattle.optics.specs.Types.{with_radius, with_conic, with_thickness, with_semi_diameter, surface_at}
use Rattle.optics.specs.declared.types.OpticalPrescription.{OpticalPrescription}
use Rattle.optics.specs.declared.types.OpticalSurface.{OpticalSurface}
use Rattle.optics.specs.declared.types.ParaxialRay.{ParaxialRay}
use Rattle.variables.specs.declared.types.Follower.{Follower}
use Rattle.variables.specs.declared.types.Follower.TheVariants.{Plus, Minus}
use Rattle.variables.specs.declared.types.VariableType.{VariableType}
use Rattle.variables.specs.declared.types.VariableType.TheVariants.{Curvature, Thickness, Conic, SemiDiameter}
use Rattle.variables.specs.Active.{enabled_of}
use Rattle.variables.specs.Kinds.{radius_of}
use Rattle.variables.specs.Taken.{followers_taken}
use Rattle.variables.specs.Values.{applied_to, applied}
use Rattle.edges.specs.Edges.{sag_of}
use Rattle.merit.specs.Operands.{ten_thousand, hundred, penalty, finite_or, is_focal_length, is_magnified, track, shortfall, value_of}
use Rattle.merit.specs.Evaluation.{difference, residual, term, total, counted_total}
use Rattle.merit.specs.Check.{kind_taken, weight_taken, operand_taken}
use Rattle.merit.specs.Calls.{lens_evaluation, evaluate_number, trace_number, trace_answer, traced_rays}
use Rattle.merit.specs.declared.types.MeritEvaluation.{MeritEvaluation}
use Rattle.merit.specs.declared.types.MeritFunction.{MeritFunction}
use Rattle.merit.specs.declared.types.Traced.TheVariants.{Done}
use Rattle.intervals.specs.Interval.{ends, exactly, zero_interval, lesser, greater, ends_finite}
use Rattle.intervals.specs.Limits
use Rattle.intervals.specs.Limits.{refraction_finite, transfer_finite, track_limits, arrival_finite}
use Rattle.intervals.specs.Calls.{limits_taken, limits_number, limits_as}
use Rattle.intervals.specs.declared.types.Interval.{Interval}
use Rattle.intervals.specs.declared.types.ThicknessLimits.{ThicknessLimits}
use Rattle.intervals.specs.declared.types.TraceLimits.{TraceLimits}
use Rattle.jobs.specs.Sample.{Unused, lens, sixty, request, damped, multi_start, annealing, n1, n2, n4, n8, n16, n64}
use Rattle.jobs.specs.declared.types.Job.{Job}
use Rattle.jobs.specs.declared.types.Method.TheVariants.{Damped}
use Rattle.runs.specs.Run.{Surfaces, bind, after_merit, after_merits, is_done, value}
use Rattle.runs.specs.DampedRun
use Rattle.runs.specs.DampedRun.{iterations}
use Rattle.runs.specs.JobRun.{run_by}
use Rattle.runs.proofs.Moved.{n3, quarter, two_and_half, thickened, half-way}
use Rattle.runs.proofs.KnownRuns.{KnownRuns, known-runs}
use Rattle.runs.proofs.KnownDraws.{KnownDraws, known-draws}
use Rattle.bench.proofs.Accepted.{Admitted, drawings-admitted}
use Rattle.known.specs.Samples.{Settings, limit_zero, n10, n12, n13, n56, seven_eighths, tenth_of_least, least, past_five, past_one, first_alone, kinds}
use Rattle.known.specs.Samples.{three_and_half, sixteenth, thirty_second, n19880, n395214400}
use Rattle.known.specs.Samples.{n24, three_and_quarter, four_less_quarter, shop_limits}
use Rattle.known.specs.Samples.{at_least_three, half_ball, edge_at_least, eighth, variable_within, curvature_within, curvature}

-- `evaluate` takes the lens and the operands, and its answer has a property
abbrev pub Evaluates : OpticalPrescription → MeritFunction → (MeritEvaluation → Type 0) → Type 0
Evaluates p f Has = (evaluate_number p f ≡ 0) × Has (lens_evaluation p f)

-- `trace_limits` takes the lens and the limits in slot 0, and what it leaves has a property, whatever was lent
abbrev pub Limited : OpticalPrescription → ThicknessLimits → (TraceLimits → Type 0) → Type 0
Limited p l Has = (limits_number p l 0 ≡ 0) × ((old : TraceLimits) → Has (limits_as old p l 0))

-- The first surface's curvature set to x: the surface, those behind it, and all of them afterwards have a property. Whatever they are, and whatever values
-- follow.
abbrev pub Curved : Float → (OpticalSurface → (rest new : Surfaces) → Type 0) → Type 0
Curved x Has = (u : Unused) (s : OpticalSurface) (rest : Surfaces) (more : List Float) → Has s rest (applied (curvature u) (x ∷ more) (s ∷ rest))

abbrev pub Flat : OpticalSurface → (rest new : Surfaces) → Type 0
Flat s rest new = new ≡ with_radius s (inf false) ∷ rest

abbrev pub Bent : OpticalSurface → (rest new : Surfaces) → Type 0
Bent s rest new = finite_of (surface_at new 0).radius_mm ≡ true

-- A variable, within bounds, set to x: all surfaces afterwards, out of the first, the second and the rest.
abbrev pub Led : VariableType → (lo hi : Float) → Follower → (x : Float) → (OpticalSurface → OpticalSurface → Surfaces → Surfaces) → Type 0
Led kind lo hi f x new = (u : Unused) (s t : OpticalSurface) (rest : Surfaces) (more : List Float)
    → applied (variable_within u true kind lo hi f) (x ∷ more) (s ∷ t ∷ rest) ≡ new s t rest

-- the first surface's curvature
abbrev pub Followed : (lo hi : Float) → Follower → (x : Float) → (OpticalSurface → OpticalSurface → Surfaces → Surfaces) → Type 0
Followed lo hi f x new = Led (Curvature 0) lo hi f x new

-- both with a radius of their own
abbrev pub radii : (named follower : Float) → OpticalSurface → OpticalSurface → Surfaces → Surfaces
radii named follower s t rest = with_radius s named ∷ with_radius t follower ∷ rest

-- Each value holds whatever stands past the counts (u).
pub record Known : Type 0 where
  -- "Focal length 64, back focus 56, f-number 8, track 16, magnification 0.875."
  pub values : (u : Unused) → Evaluates (lens u n64 n16) (kinds u) (λ e. e.values ≡ n64 ∷ n56 ∷ n8 ∷ n16 ∷ seven_eighths ∷ past_five)
  -- "Focal length target 60, weight 4: residual 8, merit 64."
  pub weighted : (u : Unused) → Evaluates (lens u n64 n16) (sixty u) (λ e. (e.residuals ≡ n8 ∷ past_one) × (e.total_merit ≡ n64))
  -- another lens under the same operand: 10,000 against 60, and so another merit
  pub flat_weighted : (u : Unused) → Evaluates (lens u (inf false) n16) (sixty u) (λ e. (e.residuals ≡ n19880 ∷ past_one) × (e.total_merit ≡ n395214400))
  -- "First surface flat too: 10,000, 10,000, 100; magnification 100,000, since infinity over infinity."
  pub flat : (u : Unused) → Evaluates (lens u (inf false) n16) (kinds u) (λ e. e.values ≡ ten_thousand ∷ ten_thousand ∷ hundred ∷ n16 ∷ penalty ∷ past_five)
  -- "Only the first surface: magnification 0."
  pub alone : (u : Unused) → Evaluates (first_alone u) (kinds u) (λ e. e.values ≡ ten_thousand ∷ ten_thousand ∷ hundred ∷ n16 ∷ zero64 ∷ past_five)
  -- the heights and slopes of the lens, whatever the row held: height 4, 3.5 behind 16 of a glass of index 2, on to a focus 56 behind
  pub traced : (u : Unused) (r s : ParaxialRay)
      → (trace_answer (lens u n64 n16) 0 2 ≡ Ok Done)
      × (traced_rays (lens u n64 n16) 0 (r ∷ s ∷ []) ≡ ray_of n4 (neg thirty_second) ∷ ray_of three_and_half (neg sixteenth) ∷ [])
  -- "Seed 1 draws first hexadecimal 40822041."
  pub first_draw : step_times 1 (seeded 1) ≡ 0x40822041
  -- "Curvature -1e-13: radius plus infinity. 1e-12: finite." As they come, and from beyond the bounds.
  pub flat_radius : Curved (neg tenth_of_least) Flat
  pub below_bound : Curved (neg n1) Flat
  pub least_curvature : Curved least Bent
  pub above_bound : Curved n1 Bent
  -- "Thickness 2 against least 3: -1; 3 against 3: 0."
  pub short : (u : Unused) → Evaluates (lens u n64 n2) (at_least_three u) (λ e. e.values ≡ neg n1 ∷ past_one)
  pub enough : (u : Unused) → Evaluates (lens u n64 n3) (at_least_three u) (λ e. e.values ≡ zero64 ∷ past_one)
  -- Request 3: the sag of a half ball is 8, its edge 8: short of 10 by 2, not of 8. Conic -1: sag 4, edge 12. Conic 3: t is -3. The last surface has no
  -- successor.
  pub edge_short : (u : Unused) → Evaluates (half_ball u zero64) (edge_at_least u 0 n10) (λ e. e.values ≡ neg n2 ∷ past_one)
  pub edge_enough : (u : Unused) → Evaluates (half_ball u zero64) (edge_at_least u 0 n8) (λ e. e.values ≡ zero64 ∷ past_one)
  pub parabola_short : (u : Unused) → Evaluates (half_ball u (neg n1)) (edge_at_least u 0 n13) (λ e. e.values ≡ neg n1 ∷ past_one)
  pub parabola_enough : (u : Unused) → Evaluates (half_ball u (neg n1)) (edge_at_least u 0 n12) (λ e. e.values ≡ zero64 ∷ past_one)
  pub sag_fails : (u : Unused) → Evaluates (half_ball u n3) (edge_at_least u 0 n10) (λ e. e.values ≡ penalty ∷ past_one)
  pub no_successor : (u : Unused) → Evaluates (half_ball u zero64) (edge_at_least u 1 n10) (λ e. e.values ≡ penalty ∷ past_one)
  -- Request 13: the lens with its first thickness from 8 to 24 is taken. Track 8 to 24; heights 4, then 3.25 to 3.75; slopes -1/32, then -1/16.
  pub within_limits : (u : Unused) (rest : List Interval) → Limited (lens u n64 n16) (shop_limits rest) (λ t.
      (t.track ≡ ends n8 n24)
      × (t.heights ≡ exactly n4 ∷ ends three_and_quarter four_less_quarter ∷ replicate 14 zero_interval)
      × (t.slopes ≡ exactly (neg thirty_second) ∷ exactly (neg sixteenth) ∷ replicate 14 zero_interval))
  -- Request 9: curvature 0.125, as it comes and from beyond the bound: radii 8 and -8 with minus, 8 and 8 with plus. -1e-13 with minus: both plus infinity.
  pub minus : Followed zero64 eighth (Minus 1) eighth (radii n8 (neg n8))
  pub minus_clamped : Followed zero64 eighth (Minus 1) n1 (radii n8 (neg n8))
  pub plus : Followed zero64 eighth (Plus 1) eighth (radii n8 n8)
  pub minus_flat : Followed (neg tenth_of_least) least (Minus 1) (neg tenth_of_least) (radii (inf false) (inf false))
  -- "straight after the named surface": one that follows itself with minus is left with -8
  pub minus_itself : Followed zero64 eighth (Minus 0) eighth (λ s t rest. with_radius s (neg n8) ∷ t ∷ rest)
  -- the follower gets the quantity that the variable names, whichever it is
  pub thickness_follows : Led (Thickness 0) n1 n4 (Plus 1) n3 (λ s t rest. with_thickness s n3 ∷ with_thickness t n3 ∷ rest)
  pub conic_follows : Led (Conic 0) n1 n4 (Minus 1) n3 (λ s t rest. with_conic s n3 ∷ with_conic t (neg n3) ∷ rest)
  pub semi_diameter_follows : Led (SemiDiameter 0) n1 n4 (Plus 1) n3 (λ s t rest. with_semi_diameter s n3 ∷ with_semi_diameter t n3 ∷ rest)
  -- 17: a follower of two surfaces is taken, one that is absent is not, "enabled or not"
  pub follower_there : (u : Unused) → followers_taken 2 (curvature_within u zero64 eighth (Minus 1)) ≡ true
  pub follower_absent : (u : Unused) → followers_taken 1 (curvature_within u zero64 eighth (Minus 1)) ≡ false
  pub disabled_absent : (u : Unused) → followers_taken 1 (variable_within u false (Curvature 0) zero64 eighth (Plus 1)) ≡ false
  -- minus of a conic is taken, "of a semi-diameter or thickness" it is not, and plus is
  pub conic_minus : (u : Unused) → followers_taken 2 (variable_within u true (Conic 0) n1 n4 (Minus 1)) ≡ true
  pub thickness_minus : (u : Unused) → followers_taken 2 (variable_within u true (Thickness 0) n1 n4 (Minus 1)) ≡ false
  pub semi_diameter_minus : (u : Unused) → followers_taken 2 (variable_within u true (SemiDiameter 0) n1 n4 (Minus 1)) ≡ false
  pub thickness_plus : (u : Unused) → followers_taken 2 (variable_within u true (Thickness 0) n1 n4 (Plus 1)) ≡ true
  -- a damped run moves: 2 thick where 3 is wanted, damping 1, one iteration: 2.5 thick, merit 1/4
  pub moves : (u : Unused) → ((thickened u).final_merit ≡ quarter) × ((surface_at (thickened u).surfaces 0).thickness_mm ≡ two_and_half)
  -- "One thickness variable, bounds both at its value, defaults: 3 turns, 1 iteration, converged. Gradient tolerance 0: 13 turns, not converged. Initial
  -- damping 0 as well: 3 turns." Beside these a damped run that moves, one that raises its damping without merits, one whose gradient overflows.
  pub runs : (u : Unused) → KnownRuns u
  -- trials and steps drawn at known states of the generator, steps taken and not, whatever surfaces, values and residuals are
  pub draws : (u : Unused) (s : Surfaces) (v r : List Float) → KnownDraws u s v r
  -- "Iteration limit 0: one turn, not converged." Whatever the job and the other settings are.
  pub a_turn : (s : Settings) (job : Job) → is_done (run_by (Damped (limit_zero s)) job) ≡ false
  pub one_turn : (f : Surfaces → MeritEvaluation) (s : Settings) (job : Job) → is_done (after_merits f 1 (run_by (Damped (limit_zero s)) job)) ≡ true
  pub not_converged : (f : Surfaces → MeritEvaluation) (s : Settings) (job : Job) → (value f (run_by (Damped (limit_zero s)) job)).converged ≡ 0
  -- "Ruled out by the lists: refusing every drawing": the lens with a thickness variable is admitted, for each kind of run
  pub admitted : (u : Unused) → Admitted (request u damped) × Admitted (request u multi_start) × Admitted (request u annealing)

pub known : Known
unfolding trace_number trace_answer step_of seeded step_times radius_of lt magnitude finite_of of_bits neg div tab all_below Curvature.curvature arriving
    paraxial_of
    within above_zero_up_to surface_taken lens_taken finite_or is_focal_length is_magnified track shortfall sag_of value_of difference residual term total
    counted_total
    kind_taken weight_taken operand_taken evaluate_number sqrt_of le sub mul is_nan enabled_of followers_taken applied_to applied run_by DampedRun.damped
    iterations bind
    after_merits after_merit is_done value
    lesser greater ends_finite refraction_finite transfer_finite track_limits arrival_finite Limits.arriving limits_taken limits_number add
known = record {
  values = λ u. (refl, refl);
  weighted = λ u. (refl, (refl, refl));
  flat_weighted = λ u. (refl, (refl, refl));
  flat = λ u. (refl, refl);
  alone = λ u. (refl, refl);
  traced = λ u r s. (refl, refl);
  first_draw = refl;
  flat_radius = λ u s rest more. refl;
  below_bound = λ u s rest more. refl;
  least_curvature = λ u s rest more. refl;
  above_bound = λ u s rest more. refl;
  short = λ u. (refl, refl);
  enough = λ u. (refl, refl);
  edge_short = λ u. (refl, refl);
  edge_enough = λ u. (refl, refl);
  parabola_short = λ u. (refl, refl);
  parabola_enough = λ u. (refl, refl);
  sag_fails = λ u. (refl, refl);
  no_successor = λ u. (refl, refl);
  within_limits = λ u rest. (refl, λ old. (refl, refl, refl));
  minus = λ u s t rest more. refl;
  minus_clamped = λ u s t rest more. refl;
  plus = λ u s t rest more. refl;
  minus_flat = λ u s t rest more. refl;
  minus_itself = λ u s t rest more. refl;
  thickness_follows = λ u s t rest more. refl;
  conic_follows = λ u s t rest more. refl;
  semi_diameter_follows = λ u s t rest more. refl;
  follower_there = λ u. refl;
  follower_absent = λ u. refl;
  disabled_absent = λ u. refl;
  conic_minus = λ u. refl;
  thickness_minus = λ u. refl;
  semi_diameter_minus = λ u. refl;
  thickness_plus = λ u. refl;
  moves = half-way;
  runs = known-runs;
  draws = known-draws;
  a_turn = λ s job. refl;
  one_turn = λ f s job. refl;
  not_converged = λ f s job. refl;
  admitted = drawings-admitted;
}
