-- `text::numbers::digits_value` meets its contract. The loop's invariant: the digits from `b` on, after `total`, make the number that all of them make.
-- Assumes nothing.
use mathlib.Core.Path.{◌≡◌}
use lib.ListN.{drop}
use Rattle.text.specs.Numbers.{digits_from}
use Rattle.text.proofs.numbers.digits_value.Given as goal

abbrev pub invariant-loop-b : goal.invariant-loop-b
invariant-loop-b l = digits_from l.base l.total (drop l.b-index l.text) ≡ digits_from l.base 0 l.text
