-- `meritcalls::calls::lens_evaluation` meets its contract. Assumes nothing.
use mathlib.Core.Path.{◌∙◌}
use Rattle.optics.specs.Types.{flat_surface, slot_index}
use Rattle.merit.specs.Evaluation.{evaluation_of}
use Rattle.merit.proofs.CheckLaws.{slots-known}
use Rattle.meritcalls.proofs.Answers.{laid-room, laid-evaluation}
use Rattle.meritcalls.proofs.calls.lens_evaluation.Goals as goal

pub laid-lens-requires : goal.laid-lens-requires
laid-lens-requires c = (c.requires.surfaces, laid-room _ _ _ _ c.laid-flat.ensures)

pub evaluate_flat-requires : goal.evaluate_flat-requires
evaluate_flat-requires c =
    let a = c.args in
    let ok = c.requires in (
      ok.operands,
      slots-known a.prescription.slot_count ok.slots
          a.function ok.taken,
    )

pub returns : goal.returns
returns c =
    let a = c.args in
    let ok = c.requires in
    let l = c.laid-lens.ensures in
    c.evaluate_flat.ensures
    ∙ (λ i. evaluation_of (flat_surface (l.flat i)) (slot_index (l.indices i)) (l.pupil i) (l.count i) a.function)
    ∙ laid-evaluation a.prescription a.function _ _ c.laid-flat.ensures
    (slots-known a.prescription.slot_count ok.slots a.function ok.taken)
