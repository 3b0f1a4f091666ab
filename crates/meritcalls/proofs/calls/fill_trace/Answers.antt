-- `meritcalls::calls::fill_trace` meets its contract. Assumes nothing.
use Rattle.std.proofs.Common.{◌≤◌, ◌∙◌, length, rules}
use Rattle.optics.specs.declared.types.ParaxialRay.{ParaxialRay}
use Rattle.meritcalls.proofs.Answers.{laid-room, heights-are, row-filled}
use Rattle.meritcalls.proofs.calls.fill_trace.Goals as goal

pub laid-lens-requires : goal.laid-lens-requires
laid-lens-requires c = (c.requires.surfaces, laid-room _ _ _ _ c.laid-flat.ensures)

pub trace_heights-requires : goal.trace_heights-requires
trace_heights-requires c =
    let few : c.laid-lens.result.surfaces.count ≤ 16 = rw c.laid-lens.ensures.count c.requires.surfaces in
    (c.requires.below, few, few)

pub fill_rays-requires : goal.fill_rays-requires
fill_rays-requires c =
    let a = c.args in
    let ok = c.requires in
    let few : length a.rays.now ≤ 16 = rw ok.row ok.surfaces in
    (search rules, search rules)

pub returns : goal.returns
returns c =
    let a = c.args in
    let t = c.trace_heights in
    let flat = c.laid-flat.ensures in
    let l = c.laid-lens.ensures in
    c.fill_rays.ensures
    ∙ row-filled a.prescription a.slot _ c.requires.row _ _ _ _
    (heights-are a.prescription a.slot _ _ flat (λ (r : ParaxialRay). r.y) c.laid-lens.result l.flat l.count l.indices l.pupil _ t.ensures.heights_after)
    (heights-are a.prescription a.slot _ _ flat (λ (r : ParaxialRay). r.u) c.laid-lens.result l.flat l.count l.indices l.pupil _ t.ensures.slopes_after)
