-- A number compared with itself is alike. Assumes nothing.
use Rattle.std.specs.Prelude.{◌≡◌, refl, true, Float}
use Rattle.std.proofs.Common.{eq-eqb}
use Rattle.text.specs.Numbers.{bits_of}
use Rattle.alike.specs.Same.{same_float}

pub float : (x : Float) → same_float x x ≡ true
float x = eq-eqb (bits_of x) (bits_of x) refl
