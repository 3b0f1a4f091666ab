-- Scratch as a turn leaves it. Definitions only.
use Rattle.std.specs.Prelude.{List, ◌++◌, replicate, drop, Float}
use Rattle.floats.specs.Constants.{zero64}
use Rattle.normal.specs.Layout.{scratch_length}

-- "the rest now untouched" (request 11)
abbrev pub untouched : List Float → List Float
untouched scratch = drop scratch_length scratch

-- "the first 128 entries are left +0.0"
abbrev pub cleared : List Float → List Float
cleared scratch = replicate scratch_length zero64 ++ untouched scratch
