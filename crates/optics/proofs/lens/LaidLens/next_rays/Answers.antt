-- `LaidLens::next_rays` meets its contract. Assumes nothing.
use Rattle.std.proofs.Common.{of_calls, ◌≡◌, get_or}
use Rattle.lists.specs.Made.{made}
use Rattle.optics.specs.Laid.{lens_surface, lens_index}
use Rattle.optics.specs.Trace.{onward, ray_behind}
use Rattle.optics.specs.Types.{no_arriving}
use Rattle.optics.proofs.lens.LaidLens.next_rays.Goals as goal

pub returns : goal.returns
returns c =
    let a = c.args.self.now in
    made _ _ (λ w. onward (lens_surface a c.args.k) (lens_index a w c.args.k) (get_or c.args.rays w no_arriving)) _ 4 no_arriving
    c.from_fn.ensures.items (λ w y q h called.
    let e : y ≡ ray_behind c.curvature_of-curvature.result (lens_surface a c.args.k).thickness_mm (lens_index a w c.args.k)
    (get_or c.args.rays w no_arriving) =
    search of_calls in
    (rw c.curvature_of-curvature.ensures at e, search of_calls))
