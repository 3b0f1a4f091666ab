-- What a follower's store is: nothing but the original's where there is none; opposite radii to the bit, or both plus infinity, for minus. Assumes nothing.
use Rattle.std.specs.Prelude.{◌≡◌, Bool, true, false, cond, List, Float}
use Rattle.std.proofs.Math.Path.{refl}
use Rattle.std.proofs.Common.{sym, ap, ◌∙◌, le_refl, arith}
use Prim.Native.Nat.{ℕ, zero, suc, ◌≤◌, ◌<◌}
use Rattle.std.specs.Float.{inf, binary64}
use Rattle.std.specs.Float.Ieee.{neg, div, lt}
use Rattle.floats.specs.Basic.{magnitude}
use Rattle.floats.specs.Constants.{one64}
use Rattle.floatlaws.proofs.Signs.{magnitude-neg, div-neg}
use Rattle.optics.specs.declared.types.OpticalSurface.{OpticalSurface}
use Rattle.variables.specs.declared.types.Follower.TheVariants.{None}
use Rattle.variables.specs.declared.types.VariableSet.{VariableSet}
use Rattle.variables.specs.Kinds.{least_curvature, radius_of, put, followed}
use Rattle.variables.specs.Active.{num_active, active_at}
use Rattle.variables.specs.Values.{stored_at, applied_to, applied}

-- ---- the original's applying: the first n enabled variables' values, each in its variable's surface
abbrev pub applied_plain : VariableSet → List Float → List OpticalSurface → ℕ → List OpticalSurface
applied_plain v values surfaces zero = surfaces
applied_plain v values surfaces (suc q) = put (applied_plain v values surfaces q) (active_at v q).var_type (stored_at v values q)

-- where no enabled variable has a follower, applying is that: "the Rust is compared only on jobs without followers"
module _ (v : VariableSet) (plain : (q : ℕ) → q < num_active v → (active_at v q).follower ≡ None) (values : List Float) (surfaces : List OpticalSurface) where
  plain-to : (n : ℕ) → n ≤ num_active v → applied_to v values surfaces n ≡ applied_plain v values surfaces n
  unfolding applied_to
  plain-to zero h = refl
  plain-to (suc n) h = λ i. followed (put (plain-to n (omega arith) i) (active_at v n).var_type (stored_at v values n)) (active_at v n).var_type
      (plain n h i) (stored_at v values n)

  pub no-followers : applied v values surfaces ≡ applied_plain v values surfaces (num_active v)
  unfolding applied
  no-followers = plain-to (num_active v) (le_refl _)

-- ---- a curvature and its opposite
flat-alike : (c : Float) (b : Bool) → lt (magnitude c) least_curvature ≡ b → lt (magnitude (neg c)) least_curvature ≡ b
flat-alike c b e = ap (λ (m : Float). lt m least_curvature) (magnitude-neg c) ∙ e

-- "A negated curvature below 1e-12 in magnitude still stores plus infinity"
pub both-flat : (c : Float) → lt (magnitude c) least_curvature ≡ true → (radius_of c ≡ inf false) × (radius_of (neg c) ≡ inf false)
unfolding radius_of
both-flat c e = (
  ap (λ (b : Bool). cond b (inf false) (div binary64 one64 c)) e,
  ap (λ (b : Bool). cond b (inf false) (div binary64 one64 (neg c))) (flat-alike c true e),
)

-- and one that is not stores the opposite radius
pub opposite : (c : Float) → lt (magnitude c) least_curvature ≡ false → radius_of (neg c) ≡ neg (radius_of c)
unfolding radius_of
opposite c e =
    ap (λ (b : Bool). cond b (inf false) (div binary64 one64 (neg c))) (flat-alike c false e)
    ∙ div-neg binary64 one64 c
    ∙ sym (ap (λ (b : Bool). neg (cond b (inf false) (div binary64 one64 c))) e)
