-- A parameter moved to either side, the surfaces then, and the column of the Jacobian. Assumes nothing.
use mathlib.Core.Path.{◌≡◌, ap, ◌∙◌}
use mathlib.Core.List.{List}
use Prim.Native.Nat.{ℕ}
use lib.ListN.{get_or, set}
use lib.Ieee.{Float, nan}
use Rattle.optics.specs.declared.types.OpticalSurface.{OpticalSurface}
use Rattle.variables.specs.declared.types.VariableDef.{VariableDef}
use Rattle.variables.specs.declared.types.VariableSet.{VariableSet}
use Rattle.variables.specs.Active.{active_at}
use Rattle.variables.specs.Values.{applied}
use Rattle.normal.specs.Jacobian.{denominator_of, column_of, with_column}
use Rattle.jobs.specs.declared.types.DlsConfig.{DlsConfig}
use Rattle.runs.specs.declared.types.DampedState.{DampedState}
use Rattle.runs.specs.DampedRun.{p_plus, p_minus, presc_plus, presc_minus, denom, with_differences}
use Rattle.runs.specs.DampedRow.{current_of}
use Rattle.dls.specs.DampedSteps.{optimizer, with_jacobian, moved_up, moved_down}

module _ (config : DlsConfig) (v : VariableSet) (m : ℕ) (d : DampedState) {variable : VariableDef} (here : variable ≡ active_at v d.column) where
  abbrev x0 : Float
  x0 = get_or d.params d.column nan

  abbrev relative : Float
  relative = config.finite_difference_relative_step

  up : {x : Float} → x ≡ moved_up x0 relative variable → x ≡ p_plus (optimizer config v m) (current_of d) d.column
  unfolding p_plus
  up e = e ∙ ap (moved_up x0 relative) here

  down : {x : Float} → x ≡ moved_down x0 relative variable → x ≡ p_minus (optimizer config v m) (current_of d) d.column
  unfolding p_minus
  down e = e ∙ ap (moved_down x0 relative) here

  abbrev moved : Float → List OpticalSurface
  moved x = applied v (set d.params d.column x) d.surfaces

  pub plus-surfaces : {x : Float} {r : List OpticalSurface} → x ≡ moved_up x0 relative variable → r ≡ moved x → r
      ≡ presc_plus (optimizer config v m) (current_of d) d.column
  unfolding presc_plus
  plus-surfaces e f = f ∙ ap moved (up e)

  pub minus-surfaces : {x : Float} {r : List OpticalSurface} → x ≡ moved_down x0 relative variable → r ≡ moved x → r
      ≡ presc_minus (optimizer config v m) (current_of d) d.column
  unfolding presc_minus
  minus-surfaces e f = f ∙ ap moved (down e)

  pub between-both : {x y r : Float} → x ≡ moved_up x0 relative variable → y ≡ moved_down x0 relative variable → r ≡ denominator_of x0 x y → r
      ≡ denom (optimizer config v m) (current_of d) d.column
  unfolding denom
  between-both e f g = g ∙ (λ i. denominator_of x0 (up e i) (down f i))

-- the state with its column written
pub column-written : (config : DlsConfig) (v : VariableSet) (m : ℕ) (d : DampedState) (below j_mat : List Float) (between : Float) →
    between ≡ denom (optimizer config v m) (current_of d) d.column → j_mat
    ≡ with_column d.jacobian d.column (column_of d.plus_residuals below m between) →
    with_jacobian d j_mat ≡ with_jacobian d (with_differences (optimizer config v m) (current_of d) d.column d.jacobian d.plus_residuals below)
unfolding with_differences
column-written config v m d below j_mat between e f =
    ap (with_jacobian d) (f ∙ ap (λ (x : Float). with_column d.jacobian d.column (column_of d.plus_residuals below m x)) e)
