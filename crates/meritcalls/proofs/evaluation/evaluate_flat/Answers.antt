-- `meritcalls::evaluation::evaluate_flat` meets its contract. Assumes nothing.
use mathlib.Core.Path.{◌≡◌, refl, sym, ap, ◌∙◌}
use mathlib.Core.List.{List}
use native.Mathlib.Omega.{arith}
use Prim.Native.Nat.{ℕ, ◌<◌}
use lib.Ieee.{Float}
use lib.ListN.{get_or}
use Rattle.floatlaws.specs.CallerLaws.{root-one}
use Rattle.lists.specs.Tab.{get_or-tab}
use Rattle.optics.specs.Laid.{lens_surface, lens_index, lens_paraxial}
use Rattle.std.specs.Prelude.{Option, None}
use Rattle.optics.specs.declared.types.ParaxialProperties.{ParaxialProperties}
use Rattle.merit.specs.Evaluation.{values_after, value_at}
use Rattle.merit.proofs.EvaluationLaws.{values-after}
use Rattle.merit.specs.OperandTable.{operand_at}
use Rattle.merit.specs.Operands.{value_of}
use Rattle.merit.proofs.ValueLaws.{value_same}
use Rattle.meritcalls.proofs.Evaluating.{laid, residual-is, term_is, first, next, last}
use Rattle.meritcalls.proofs.evaluation.evaluate_flat.Goals as goal

pub loop-n-init : goal.loop-n-init
loop-n-init c = (first _ _ _ _ _ _ _, sym root-one)

pub loop-n-preserved : goal.loop-n-preserved
loop-n-preserved c =
    let start = c in
    let a = start.args in
    let l = c.loop-n in
    let slots = c.paraxial_slots-slots in
    let turn = c in
    let more : l.n < a.function.operand_count = omega arith in
    let room : l.n < 12 = omega arith in
    let traced : (w : ℕ) → w < 4 → get_or slots.result w None
    ≡ lens_paraxial a.lens.now w =
    λ w h. ap (λ (s : List (Option ParaxialProperties)). get_or s w None) slots.ensures ∙ get_or-tab _ 4 w None h in
    let surface = lens_surface a.lens.now in
    let index = lens_index a.lens.now in
    let earlier : l.values ≡ values_after surface index a.lens.now.pupil a.lens.now.surfaces.count a.function l.n =
    laid surface index a.lens.now.pupil a.lens.now.surfaces.count a.function _ _ l.values l.residuals l.total l.n l.invariant.0 refl room
    ∙ sym (values-after surface index a.lens.now.pupil a.lens.now.surfaces.count a.function l.n (omega arith)) in
    let v : turn.value_of-value.result ≡ value_at surface index a.lens.now.pupil a.lens.now.surfaces.count a.function l.n =
    turn.value_of-value.ensures
    ∙ ap (λ (z : List Float). value_of z (λ (w : ℕ). get_or slots.result w None) surface a.lens.now.surfaces.count
    (operand_at a.function l.n).operand_type) earlier
    ∙ value_same _ _ _ _ _ _ (start.requires.1 l.n more) (traced _) in
    let d = turn.difference_of-d.ensures in
    let root = turn.root_of-known.ensures in
    (next _ _ _ _ _ _ _ l.values l.residuals l.total l.n more _ _ _ room room v (residual-is _ v d root.0) (term_is _ v d) l.invariant.0, root.1)

pub returns : goal.returns
returns c =
    let l = c.loop-n in
    let e : l.n ≡ c.args.function.operand_count = omega (arith, l.invariant.0.most) in
    last _ _ _ _ _ _ _ l.values l.residuals l.total refl refl (rw e at l.invariant.0) _ c.counted_total.ensures
