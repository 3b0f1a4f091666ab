-- `edges::edge::sag_of` meets its contract. Assumes nothing.
use Rattle.std.proofs.Common.{◌≡◌, false, sym, ◌∙◌}
use Rattle.std.specs.Prelude.{cond, ◌||◌, Float, Some, None}
use Rattle.std.specs.Float.{binary64}
use Rattle.std.specs.Float.Ieee.{add, div, lt, is_nan}
use Rattle.floats.specs.Constants.{zero64, one64}
use Rattle.floats.specs.Sqrt.{sqrt_of}
use Rattle.edges.specs.Edges.{sag_of}
use Rattle.edges.proofs.edge.sag_of.Goals as goal

-- t as a parameter, so that it is not computed again and again

found : (t n root : Float) → lt t zero64 ≡ false → is_nan t ≡ false → root ≡ sqrt_of t
    → Some (div binary64 n (add binary64 one64 root)) ≡ cond (lt t zero64 || is_nan t) None (Some (div binary64 n (add binary64 one64 (sqrt_of t))))
found t n root a b e = simp (a, b, e)

pub returns : goal.returns
unfolding sag_of
returns c = found _ _ _ c.if-t.false (sym c.is_nan.ensures.value ∙ c.if-is_nan.false) c.sqrt.ensures
