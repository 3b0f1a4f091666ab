-- `held::values::value_of` meets its contract. Assumes nothing.
use mathlib.Core.Path.{sym, ap, ◌∙◌}
use lib.ListN.{get_or-eq_default}
use Rattle.optics.specs.Types.{no_surface, surface_at}
use Rattle.optics.specs.declared.types.OpticalSurface.{OpticalSurface}
use Rattle.variables.specs.Kinds.{quantity_of, surface_index}
use Rattle.held.specs.JobFrom.{standing}
use Rattle.held.specs.Standing.{standing-long, standing-at}
use Rattle.held.proofs.values.value_of.Goals as goal

pub returns-then-i-lt16 : goal.returns-then-i-lt16
returns-then-i-lt16 c =
    let a = c.args in
    let s = c.surface_at-s.ensures ∙ sym (standing-at a.flat.now c.surface_index-i.result c.if-i-lt16.true)
    ∙ ap (surface_at (standing a.flat.now)) c.surface_index-i.ensures in
    c.quantity.ensures ∙ ap (λ (s : OpticalSurface). quantity_of s a.kind) s

pub returns : goal.returns
returns c =
    let a = c.args in
    let s = c.no_surface.ensures ∙ sym (get_or-eq_default (standing a.flat.now) no_surface {n = surface_index a.kind}
    (rw (standing-long a.flat.now, ← c.surface_index-i.ensures) c.if-i-lt16.false)) in
    c.quantity-2.ensures ∙ ap (λ (s : OpticalSurface). quantity_of s a.kind) s
