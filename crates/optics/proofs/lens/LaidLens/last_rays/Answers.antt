-- `LaidLens::last_rays` meets its contract. Assumes nothing.
use Rattle.std.proofs.Common.{of_calls, ◌≡◌, get_or, ◌∙◌}
use Rattle.lists.specs.Made.{made}
use Rattle.optics.specs.Laid.{lens_surface, lens_index}
use Rattle.optics.specs.Properties.{last_rays, rays_between}
use Rattle.optics.specs.Types.{no_arriving, no_last}
use Rattle.optics.proofs.AllSlots.{last-are}
use Rattle.optics.proofs.lens.LaidLens.last_rays.Goals as goal

pub returns : goal.returns
returns c =
    let a = c.args.self.now in
    let first = c.arriving_rays-first in
    let second = c.next_rays-second in
    let third = c.next_rays-third in
    made _ _ (λ w. last_rays (lens_surface a) (lens_index a w) a.pupil a.surfaces.count) _ 4 no_last c.from_fn.ensures.items
    (λ w y q h called.
    let e : y ≡ rays_between (get_or first.result w no_arriving) (get_or second.result w no_arriving) (get_or third.result w no_arriving) = search of_calls in
    (e ∙ last-are (lens_surface a) (lens_index a) a.pupil a.surfaces.count _ _ _ c.requires first.ensures second.ensures third.ensures w h, search of_calls))
