-- `held::flat::put_surface` meets its contract. Assumes nothing.
use native.Mathlib.Omega.{arith}
use Rattle.held.proofs.Stored.{standing-stored, behind-stored}
use Rattle.held.proofs.flat.put_surface.Goals as goal

pub returns : goal.returns
returns c =
    let a = c.args in
    record {
      fact_1 = standing-stored a.flat.now a.i a.s (omega arith) (omega arith);
      fact_2 = behind-stored a.flat.now a.i a.s (omega arith) (omega arith);
    }
