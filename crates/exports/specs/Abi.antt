-- The number of the records' layout, which the header for C has too (`LENS_ABI`): it goes up with every change of a record. Definitions only.
use Rattle.std.specs.Prelude.{ℕ}

abbrev pub abi_number : ℕ
abi_number = 5
