-- `heldmerit::evaluation::values_of` meets its contract: the loop's invariant: the values of the operands passed stand. Assumes nothing.
use mathlib.Core.Path.{◌≡◌, refl, ap, ◌∙◌}
use mathlib.Core.List.{List}
use native.Mathlib.Omega.{arith}
use Prim.Native.Nat.{ℕ, ◌<◌}
use lib.Ieee.{nan}
use lib.ListN.{get_or}
use Rattle.optics.specs.Types.{slot_index}
use Rattle.runs.specs.JobMerit.{evaluate_of}
use Rattle.held.specs.JobFrom.{surface_count_from, operand_count_from, pupil_from, indices_from, operands_from}
use lib.ListN.{length}
use Rattle.lists.specs.Tab.{tab, get_or-tab, tab-step}
use Rattle.optics.specs.Properties.{paraxial_of}
use Rattle.optics.specs.Types.{flat_surface}
use Rattle.optics.specs.declared.types.ParaxialProperties.{ParaxialProperties}
use Rattle.std.specs.Prelude.{Option, None}
use Rattle.merit.specs.Evaluation.{value_at}
use Rattle.merit.specs.Operands.{value_of}
use Rattle.merit.specs.declared.types.MeritEvaluation.{MeritEvaluation}
use Rattle.meritcalls.proofs.Answers.{laid-evaluation}
use Rattle.runs.specs.JobMerit.{lens_with}
use Rattle.held.specs.EntryLaws.{indices-long}
use Rattle.held.specs.JobFrom.{held_job}
use Rattle.heldmerit.proofs.Over.{all-stand, value-next}
use Rattle.heldmerit.proofs.evaluation.values_of.Goals as goal

pub invariant_of-lens-2 : goal.invariant_of-lens-2
invariant_of-lens-2 c =
    let e = ap length c.indices.ensures ∙ indices-long c.args.job.numbers.now in
    omega (arith, e, c.surface_count-count.ensures)

pub loop-n-init : goal.loop-n-init
unfolding tab
loop-n-init c =
    let x = c.args in
    let trace : ℕ → Option ParaxialProperties =
    λ w. paraxial_of (flat_surface x.flat.now) (slot_index (indices_from x.job.numbers.now) w) (pupil_from x.job.numbers.now)
    (surface_count_from x.job.counts.now) in
    let traced : c.paraxial_slots-slots.result ≡ tab trace 4 =
    c.paraxial_slots-slots.ensures
    ∙ (λ i. tab (λ (w : ℕ). paraxial_of (flat_surface x.flat.now) (slot_index (c.indices.ensures i) w) (c.pupil.ensures i)
    (c.surface_count-count.ensures i)) 4) in (
      refl,
      c.operand_count-many.ensures,
      c.surface_count-count.ensures,
      λ w h. ap (λ (l : List (Option ParaxialProperties)). get_or l w None) traced ∙ get_or-tab trace 4 w None h,
    )

pub loop-n-preserved : goal.loop-n-preserved
loop-n-preserved c =
    let x = c.args in
    let f = operands_from x.job.counts.now x.job.numbers.now in
    let l = c.loop-n in
    let more : l.n < operand_count_from x.job.counts.now = omega (arith, l.invariant.1) in
    let room : l.n < 12 = omega (arith, c.requires.fact_3) in
    let o = c.operand_at-o in
    let v = value-next (flat_surface x.flat.now) (slot_index (indices_from x.job.numbers.now)) (pupil_from x.job.numbers.now)
    (surface_count_from x.job.counts.now) f c.paraxial_slots-slots.result l.values l.n o.result _
    c.requires.fact_4 more (omega arith) l.invariant.3 l.invariant.0
    o.ensures (c.value_of.ensures ∙ ap (λ (k : ℕ). value_of l.values (λ (w : ℕ). get_or c.paraxial_slots-slots.result
    w None) (flat_surface x.flat.now) k o.result.operand_type) l.invariant.2) in (
      tab-step (value_at (flat_surface x.flat.now) (slot_index (indices_from x.job.numbers.now)) (pupil_from x.job.numbers.now)
          (surface_count_from x.job.counts.now) f) _ l.values l.n _ nan l.invariant.0 v (omega arith),
      l.invariant.1,
      l.invariant.2,
      l.invariant.3,
    )

pub returns : goal.returns
unfolding evaluate_of
returns c = λ kind s rest e.
    let x = c.args in
    let f = operands_from x.job.counts.now x.job.numbers.now in
    let m : c.loop-n.n ≡ operand_count_from x.job.counts.now = omega (arith, c.loop-n.invariant.1) in
    all-stand (value_at (flat_surface x.flat.now) (slot_index (indices_from x.job.numbers.now)) (pupil_from x.job.numbers.now)
    (surface_count_from x.job.counts.now) f) (operand_count_from x.job.counts.now) c.loop-n.n c.loop-n.values c.loop-n.invariant.0 m
    ∙ ap (λ (m : MeritEvaluation). m.values) (laid-evaluation (lens_with (held_job x.job.counts.now x.job.numbers.now kind) s) f rest x.flat.now e
    c.requires.fact_4)
