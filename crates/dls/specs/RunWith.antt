-- A run of which a call is lent some arrays: what its contract says holds whatever the others are. Definitions only.
use Rattle.std.specs.Prelude.{List, Float}
use Rattle.held.specs.declared.types.HeldRun.{HeldRun}

-- with these in their places
abbrev pub run_with : (surfaces params candidate : List Float) → HeldRun → HeldRun
run_with surfaces params candidate run = record {
  surfaces = surfaces;
  jacobian = run.jacobian;
  values = run.values;
  residuals = run.residuals;
  plus_residuals = run.plus_residuals;
  params = params;
  candidate = candidate;
}
