-- `edges::edge::edge_between` meets its contract. Assumes nothing.
use mathlib.Core.Path.{◌∙◌}
use Rattle.optics.specs.Curvature.{curvature}
use Rattle.edges.specs.Edges.{sag_of, edge_from}
use Rattle.edges.proofs.edge.edge_between.Goals as goal

pub returns : goal.returns
returns c =
    let a = c.args in
    let r = c.min-r.ensures in
    let first = c.surface_sag-first.ensures ∙ (λ j. sag_of (curvature a.surface.radius_mm) (r j) a.surface.conic_constant) in
    let second = c.surface_sag-second.ensures ∙ (λ j. sag_of (curvature a.successor.radius_mm) (r j) a.successor.conic_constant) in
    c.edge_from.ensures ∙ (λ j. edge_from a.surface.thickness_mm (first j) (second j))
