-- `LaidLens::paraxial_slots` meets its contract. Assumes nothing.
use Rattle.std.proofs.Common.{of_calls, ◌≡◌, refl, ◌∙◌, get_or, Some, None}
use borrow.Author.Tests.{lt-ltb}
use Rattle.lists.specs.Tab.{tab}
use Rattle.lists.specs.Made.{made}
use Rattle.optics.specs.Laid.{lens_surface, lens_index, lens_paraxial}
use Rattle.optics.specs.Properties.{properties_behind, paraxial_of}
use Rattle.optics.specs.Types.{no_last}
use Rattle.optics.proofs.AllSlots.{traced}
use Rattle.optics.proofs.lens.LaidLens.paraxial_slots.Goals as goal

pub returns-then-self-lt2 : goal.returns-then-self-lt2
unfolding paraxial_of tab
returns-then-self-lt2 c = simp (lt-ltb _ _ c.if-self-lt2.true)

pub returns : goal.returns
returns c =
    let a = c.args.self.now in
    let last = c.last_rays-last in
    made _ _ (lens_paraxial a) _ 4 None c.from_fn.ensures.items (λ w y q h called.
    let e : y ≡ Some (properties_behind (get_or last.result w no_last) (lens_surface a) (lens_index a w) a.pupil a.surfaces.count) = search of_calls in
    (e ∙ traced (lens_surface a) (lens_index a) a.pupil a.surfaces.count _ c.if-self-lt2.false last.ensures w h _ refl, search of_calls))
