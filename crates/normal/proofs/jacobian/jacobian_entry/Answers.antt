-- `normal::jacobian::jacobian_entry` meets its contract: each arm returns what `jacobian_entry` picks by the tests that led there. Assumes nothing.
use Rattle.normal.proofs.jacobian.jacobian_entry.Goals as goal

pub returns-then-is_finite : goal.returns-then-is_finite
returns-then-is_finite c =
    simp (
      ← c.abs.ensures,
      ← c.is_finite.ensures,
      c.if-abs.true,
      c.if-is_finite.true,
      c.clamp.ensures,
    )

pub returns-then-abs : goal.returns-then-abs
returns-then-abs c = simp (← c.abs.ensures, ← c.is_finite.ensures, c.if-abs.true, c.if-is_finite.false)

pub returns : goal.returns
returns c = simp (← c.abs.ensures, c.if-abs.false)
