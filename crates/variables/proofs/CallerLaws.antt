-- What callers may use: how many variables are enabled at most, and that applying keeps the surfaces' number. Assumes nothing.
use Rattle.std.specs.Prelude.{◌≡◌, refl, List, ℕ, zero, suc, ◌≤◌, length, Float}
use Rattle.std.proofs.Common.{◌∙◌, length-set}
use Rattle.std.specs.Float.Ieee.{neg}
use Rattle.optics.specs.declared.types.OpticalSurface.{OpticalSurface}
use Rattle.variables.specs.declared.types.Follower.{Follower}
use Rattle.variables.specs.declared.types.Follower.TheVariants.{None, Plus, Minus}
use Rattle.variables.specs.declared.types.VariableType.{VariableType}
use Rattle.variables.specs.declared.types.VariableSet.{VariableSet}
use Rattle.variables.specs.Kinds.{surface_index, put_at, put, followed}
use Rattle.variables.specs.Active.{num_active, active_at}
use Rattle.variables.proofs.ActiveLaws.{count-le}
use Rattle.variables.specs.Values.{stored_at, applied_to, applied}

pub active-le : (v : VariableSet) → num_active v ≤ v.variable_count
active-le v = count-le v v.variable_count

-- ---- lengths
length-put : (s : List OpticalSurface) (i : ℕ) (kind : VariableType) (x : Float) → length (put_at s i kind x) ≡ length s
length-put s i kind x = simp length-set

length-followed : (s : List OpticalSurface) (kind : VariableType) (f : Follower) (x : Float) → length (followed s kind f x) ≡ length s
length-followed s kind None x = refl
length-followed s kind (Plus i) x = length-put s i kind x
length-followed s kind (Minus i) x = length-put s i kind (neg x)

length-applied-to : (v : VariableSet) (values : List Float) (s : List OpticalSurface) (n : ℕ) → length (applied_to v values s n) ≡ length s
unfolding applied_to
length-applied-to v values s zero = refl
length-applied-to v values s (suc n) =
    let kind = (active_at v n).var_type in
    let x = stored_at v values n in
    let before = applied_to v values s n in
    length-followed (put before kind x) kind (active_at v n).follower x ∙ length-put before (surface_index kind) kind x ∙ length-applied-to v values s n

pub length-applied : (v : VariableSet) (values : List Float) (s : List OpticalSurface) → length (applied v values s) ≡ length s
unfolding applied
length-applied v values s = length-applied-to v values s (num_active v)
