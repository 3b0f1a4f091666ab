-- What callers may use of refusals 4 and 17: their parts, of any variable below the count and so of any enabled one. Assumes nothing.
use Rattle.std.specs.Prelude.{◌&&◌, ℕ, ◌<◌, T, ltb}
use Rattle.std.proofs.Common.{ltb→lt}
use Rattle.std.specs.Float.Ieee.{le}
use Rattle.std.specs.Float.Ieee.Fits.{and_l, and_r}
use Rattle.lists.specs.All.{all-at}
use Rattle.optics.specs.Check.{within}
use Rattle.variables.specs.declared.types.VariableDef.{VariableDef}
use Rattle.variables.specs.declared.types.VariableSet.{VariableSet}
use Rattle.variables.specs.Kinds.{surface_index}
use Rattle.variables.specs.Active.{variable_at, num_active, active_at}
use Rattle.variables.proofs.ActiveLaws.{each}
use Rattle.variables.specs.Taken.{bounds_taken, step_taken, lower_bound_taken, variable_taken, variables_taken, follower_taken, followers_taken}

pub record VariableTaken (n : ℕ) (d : VariableDef) : Type 0 where
  pub present : surface_index d.var_type < n
  pub low : T (within d.min_value)
  pub high : T (within d.max_value)
  pub order : T (le d.min_value d.max_value)
  pub step : T (step_taken d.step_size)
  pub lower : T (lower_bound_taken d.var_type d.min_value)

variable-parts : (n : ℕ) (d : VariableDef) → T (variable_taken n d) → VariableTaken n d
unfolding variable_taken
variable-parts n d t =
    let p = ltb (surface_index d.var_type) n in
    let l = within d.min_value in
    let h = within d.max_value in
    let o = le d.min_value d.max_value in
    let b = bounds_taken d.min_value d.max_value in
    let s = step_taken d.step_size in
    let w = lower_bound_taken d.var_type d.min_value in
    let pbs = and_l (p && b && s) w t in
    let pb = and_l (p && b) s pbs in
    let lho = and_r p b pb in
    record {
      present = ltb→lt (surface_index d.var_type) n (and_l p b pb);
      low = and_l l h (and_l (l && h) o lho);
      high = and_r l h (and_l (l && h) o lho);
      order = and_r (l && h) o lho;
      step = and_r (p && b) s pbs;
      lower = and_r (p && b && s) w t;
    }

module _ (n : ℕ) (v : VariableSet) (taken : T (variables_taken n v)) where
  pub variable-taken : (i : ℕ) → i < v.variable_count → VariableTaken n (variable_at v i)
  unfolding variables_taken
  variable-taken i l = variable-parts n (variable_at v i) (all-at (λ (k : ℕ). variable_taken n (variable_at v k)) v.variable_count i taken l)

  pub active-taken : (q : ℕ) → q < num_active v → VariableTaken n (active_at v q)
  active-taken q h = each v (VariableTaken n) v.variable_count q (λ i l e. variable-taken i l) h

-- the same of refusal 17
abbrev pub FollowerTaken : ℕ → VariableDef → Type 0
FollowerTaken n d = T (follower_taken n d.var_type d.follower)

module _ (n : ℕ) (v : VariableSet) (taken : T (followers_taken n v)) where
  follower-taken : (i : ℕ) → i < v.variable_count → FollowerTaken n (variable_at v i)
  unfolding followers_taken
  follower-taken i l = all-at (λ (k : ℕ). follower_taken n (variable_at v k).var_type (variable_at v k).follower) v.variable_count i taken l

  pub active-follower : (q : ℕ) → q < num_active v → FollowerTaken n (active_at v q)
  active-follower q h = each v (FollowerTaken n) v.variable_count q (λ i l e. follower-taken i l) h
