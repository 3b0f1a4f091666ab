-- What a draw answers, and the generator it leaves.
use Rattle.std.specs.Prelude.{ℕ, false, pos, negsuc, Float}
use Rattle.std.specs.Float.{fin, binary64}
use Rattle.std.specs.Float.Ieee.{add, sub, mul, of_int}
use Rattle.xorshift.specs.declared.Rng64.{Rng64}
use Rattle.xorshift.specs.declared.Draw.{Draw}
use Rattle.xorshift.specs.Xorshift.{step_of, shifted_right}

-- "each draw advances the generator in its owner's hands"
abbrev pub advanced : Rng64 → Rng64
advanced g = record { state = step_of g.state }

-- 1 × 2 ^ -53
abbrev pub two_to_minus53 : Float
two_to_minus53 = fin false 1 (negsuc 52)

-- "A unit draw is the top 53 bits times 2^-53"
unfoldable pub unit_of : ℕ → Float
unit_of x = mul binary64 (of_int binary64 (pos (shifted_right x 11))) two_to_minus53

-- "`uniform` is a + (b - a) × draw", each operation rounded once
unfoldable pub uniform_of : (draw a b : Float) → Float
uniform_of draw a b = add binary64 a (mul binary64 (sub binary64 b a) draw)

-- a draw of the generator with this state: the state after it, and the unit draw
abbrev pub draw_of : (state : ℕ) → Draw
draw_of state = record { state = step_of state; unit = unit_of (step_of state) }
