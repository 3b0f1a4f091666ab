-- `normal::step::system_entry` meets its contract: each arm returns what `damped_system` picks by the tests that led there. Assumes nothing.
use mathlib.Core.Path.{ap, ◌∙◌}
use Prim.Native.Nat.{ℕ, ◌+◌}
use lib.ListN.{get_or}
use Rattle.normal.specs.Layout.{product_at}
use Rattle.normal.specs.Scratch.{product_in, gradient_in}
use Rattle.normal.specs.Damping.{damped_diagonal}
use lib.Ieee.{nan}
use Rattle.normal.proofs.System.{right-entry, diagonal-entry, other-entry}
use Rattle.normal.proofs.step.system_entry.Goals as goal

pub returns-then-j-p : goal.returns-then-j-p
returns-then-j-p c =
    let x = c.args in
    right-entry x.p.count x.damping (product_in x.scratch.now) (gradient_in x.scratch.now) x.i x.j c.if-j-p.true

pub returns-then-i-j : goal.returns-then-i-j
returns-then-i-j c =
    let x = c.args in
    c.damped_diagonal.ensures ∙ ap (λ (n : ℕ). damped_diagonal x.damping (get_or x.scratch.now (product_at + n) nan))
    c.place.ensures.fact_1
    ∙ diagonal-entry x.p.count x.damping (product_in x.scratch.now) (gradient_in x.scratch.now) x.i x.j
    c.if-j-p.false c.if-i-j.true

pub returns : goal.returns
returns c =
    let x = c.args in
    ap (λ (n : ℕ). get_or x.scratch.now (product_at + n) nan) c.place.ensures.fact_1
    ∙ other-entry x.p.count x.damping (product_in x.scratch.now) (gradient_in x.scratch.now) x.i x.j c.if-j-p.false
    c.if-i-j.false
