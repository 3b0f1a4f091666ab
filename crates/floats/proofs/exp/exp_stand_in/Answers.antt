-- `floats::exp::exp_stand_in` meets its contract: a case of `exp_of` for each way through the code. Assumes nothing.
use Rattle.floats.specs.Exp.{exp_of}
use Rattle.floats.specs.BasicLaws.{differs}
use Rattle.floats.proofs.exp.exp_stand_in.Goals as goal

pub returns-then-x : goal.returns-then-x
unfolding exp_of
returns-then-x c = simp c.if-x.true

pub returns-then-x-2 : goal.returns-then-x-2
unfolding exp_of
returns-then-x-2 c = simp (differs, c.if-x.false, c.if-x-2.true)

pub returns-then-x-3 : goal.returns-then-x-3
unfolding exp_of
returns-then-x-3 c = simp (differs, c.if-x.false, c.if-x-2.false, c.if-x-3.true)

pub returns : goal.returns
unfolding exp_of
returns c =
    simp (
      differs,
      c.if-x.false,
      c.if-x-2.false,
      c.if-x-3.false,
      c.power.ensures,
      c.terms.ensures,
    )
