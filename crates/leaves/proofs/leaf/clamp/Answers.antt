-- `leaves::leaf::clamp` meets its contract: of crossed bounds the upper is out of form. Assumes nothing.
use Rattle.std.proofs.Common.{◌≡◌, ℕ, false, List, Float, Ok, Err, refl, sym, ◌∙◌}
use Rattle.std.specs.Float.Ieee.{le}
use Rattle.text.specs.declared.reader.Why.TheVariants.{Range}
use Rattle.text.specs.Reader.{wrong, came, float_from, end_from}
use Rattle.leaves.specs.Lines.{with_bounds}
use Rattle.leaves.proofs.leaf.clamp.Goals as goal

crossed
    : (line : List ℕ) (at : ℕ) {x lo hi : Float} {a b end : ℕ}
    → came (Ok x) a ≡ float_from line at
    → came (Ok lo) b ≡ float_from line a
    → came (Ok hi) end ≡ float_from line b
    → Ok tt ≡ end_from line end
    → le lo hi ≡ false
    → wrong Range b ≡ with_bounds line at
crossed line at first second third last not = simp (sym first, sym second, sym third, sym last, not) refl

pub returns : goal.returns
returns c =
    let at = c.args.reader.now.at in
    let x = c.in_ok-x.ensures in
    let lo = c.in_ok-lo.ensures in
    let hi = c.in_ok-hi.ensures in
    let third = rw (lo.same ∙ x.same) at hi.value in
    let last = rw (hi.same ∙ lo.same ∙ x.same) at c.in_ok-end.ensures in
    let is = c.wrong-crossed.ensures in
    record {
      value = (λ i. Err (record { at = is.0 i; why = is.1 i })) ∙ crossed _ at x.value (rw x.same at lo.value) third last c.if-lo-hi.false;
      sort_is = tt;
      same = hi.same ∙ lo.same ∙ x.same;
    }
