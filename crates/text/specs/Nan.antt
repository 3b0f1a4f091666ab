-- Which floats differ from themselves. Assumes nothing.
use Rattle.std.specs.Prelude.{◌≡◌, true, false, not, T, Float}
use Rattle.std.proofs.Common.{sym, subst, true≢false}
use Rattle.std.specs.Float.{nan, inf, fin}
use Rattle.std.specs.Float.Ieee.{ne, is_nan}
use Rattle.std.specs.Float.Ieee.Compare.{differs_from_itself}

pub is-nan : (x : Float) → ne x x ≡ true → x ≡ nan
is-nan x h = differs_from_itself x (subst T (sym h) tt)

pub is_number : (x : Float) → ne x x ≡ false → T (not (is_nan x))
unfolding is_nan ne
is_number nan h = absurd (true≢false h)
is_number (inf s) h = tt
is_number (fin s m e) h = tt
