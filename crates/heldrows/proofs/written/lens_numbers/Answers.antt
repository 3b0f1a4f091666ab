-- `heldrows::written::lens_numbers` meets its contract: the indices stand behind the surfaces. Assumes nothing.
use mathlib.Core.Path.{◌≡◌, refl, sym, ap, ◌∙◌}
use mathlib.Core.List.{List, ◌++◌, append_assoc}
use Prim.Native.Nat.{ℕ}
use lib.Ieee.{Float, nan}
use lib.ListN.{length, get_or, take}
use lib.Seq.{take_at}
use Rattle.std.proofs.Common.{length-append, rules}
use Rattle.lists.specs.Tab.{length-tab}
use Rattle.optics.specs.Flat.{laid_flat}
use Rattle.optics.specs.FlatLaws.{length-laid}
use Rattle.held.specs.Standing.{whole}
use Rattle.heldrows.proofs.written.lens_numbers.Goals as goal

placed : (a b r : List Float) → length a ≡ 64 → length b ≡ 64 → take 128 (a ++ (b ++ r)) ≡ a ++ b
placed a b r e f = ap (take 128) (sym (append_assoc a b r)) ∙ take_at (a ++ b) r 128 (rw (length-append, e, f) refl)

pub returns : goal.returns
returns c =
    let x = c.args in
    let front = ap (take 64) c.lay_flat.ensures ∙ take_at (laid_flat x.surfaces 16) _ 64 (length-laid x.surfaces 16) in
    let long : length x.indices ≡ 64 = search rules in
    let behind = c.copy_from_slice.ensures.after ∙ sym (whole x.indices nan 64 long) in
    placed (take 64 c.lay_flat.new.flat) c.copy_from_slice.new.self _ (ap length front ∙ length-laid x.surfaces 16)
    (ap length behind ∙ length-tab (λ (k : ℕ). get_or x.indices k nan) 64)
    ∙ (λ i. front i ++ behind i)
