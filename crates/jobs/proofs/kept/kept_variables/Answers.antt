-- `jobs::kept::kept_variables` meets its contract. Assumes nothing.
use mathlib.Core.Path.{◌∙◌}
use Prim.Native.Nat.{ℕ}
use lib.ListN.{length, get_or}
use Rattle.lists.specs.Kept.{kept, below}
use Rattle.variables.specs.Active.{no_variable}
use Rattle.std.proofs.Common.{rules, ◌≡◌}
use Rattle.jobs.proofs.kept.kept_variables.Goals as goal

pub returns : goal.returns
returns c =
    let v = c.args.v in
    let long : length v.variables ≡ 8 = search rules in
    let kept = c.clear.ensures no_variable
    ∙ (λ i. kept (below v.variable_count) (λ (k : ℕ). get_or v.variables k no_variable) (c.zero_variable.ensures i) (long i)) in
    λ i. record { variables = kept i; variable_count = v.variable_count }
