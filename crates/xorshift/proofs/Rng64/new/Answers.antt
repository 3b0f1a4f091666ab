-- `xorshift::Rng64::new` meets its contract. Assumes nothing.
use mathlib.Core.Path.{◌≡◌, refl, sym, ap}
use Prim.Native.Nat.{ℕ, zero, suc}
use Rattle.xorshift.specs.Xorshift.{seeded}
use Rattle.xorshift.proofs.Rng64.new.Goals as goal

kept : (s : ℕ) → (s ≡ 0 → ⊥) → s ≡ seeded s
unfolding seeded
kept zero h = absurd (h refl)
kept (suc s) h = refl

pub returns-then-seed-eq0 : goal.returns-then-seed-eq0
unfolding seeded
returns-then-seed-eq0 c = ap seeded (sym c.if-seed-eq0.true)

pub returns-else-seed-eq0 : goal.returns-else-seed-eq0
returns-else-seed-eq0 c = kept c.args.seed c.if-seed-eq0.false
