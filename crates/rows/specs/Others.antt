-- The arrays of a held row that the damage test does not look at. Definitions only.
use Rattle.held.specs.declared.types.HeldRow.{HeldRow}
use Rattle.helddamage.specs.Others.{Others}

abbrev pub others_of : HeldRow → Others
others_of h = record {
  scalars = h.head.scalars;
  jacobian = h.run.jacobian;
  values = h.run.values;
  residuals = h.run.residuals;
  plus_residuals = h.run.plus_residuals;
  params = h.run.params;
  candidate = h.run.candidate;
  best_values = h.best.values;
  best_residuals = h.best.residuals;
}
