-- "so that no run leaves surfaces that admission would refuse": what applying stores in surfaces that check 3 takes leaves them so. Assumes nothing.
use Rattle.std.specs.Prelude.{◌≡◌, refl, Bool, true, false, not, cond, List, [], ◌∷◌, T, ltb, ℤ, pos, get_or, set, Float}
use Rattle.std.proofs.Common.{sym, ◌∙◌, true≢false, arith, lt→ltb}
use Prim.Native.Nat.{ℕ, zero, suc, ◌*◌, ◌≤◌, ◌<◌}
use Rattle.std.proofs.Math.Dec.{not_T}
use Rattle.std.specs.Float.{nan, inf, fin, binary64}
use Rattle.std.specs.Float.Ieee.{neg, div, lt, le, eq, is_nan, of_bits, up, down}
use Rattle.std.specs.Float.Ieee.Fits.{down_pos, and_r}
use Rattle.std.specs.Float.Ieee.Bits.{is_true}
use Rattle.floats.specs.Basic.{magnitude, clamp_of, finite_of}
use Rattle.floats.specs.BasicLaws.{not-zero}
use Rattle.floatlaws.specs.CallerLaws.{finite-test, test-finite, clamp-above, clamp-below, quotient-number}
use Rattle.floats.specs.Constants.{zero64, one64}
use Rattle.floatlaws.specs.Fractions.{Finite}
use Rattle.floatlaws.specs.Order.{Number, le_trans, le-self, le-numbers, finite-between}
use Rattle.optics.specs.declared.types.OpticalSurface.{OpticalSurface}
use Rattle.optics.specs.Types.{no_surface, surface_at}
use Rattle.optics.specs.Check.{billion, within, above_zero_up_to, surface_taken}
use Rattle.optics.specs.CheckLaws.{within-parts, within-from, above_from, surface-parts, surface-from}
use Rattle.variables.specs.declared.types.Follower.{Follower}
use Rattle.variables.specs.declared.types.Follower.TheVariants.{None, Plus, Minus}
use Rattle.variables.specs.declared.types.VariableType.{VariableType}
use Rattle.variables.specs.declared.types.VariableType.TheVariants.{Curvature, Thickness, Conic, SemiDiameter}
use Rattle.variables.specs.declared.types.VariableDef.{VariableDef}
use Rattle.variables.specs.declared.types.VariableSet.{VariableSet}
use Rattle.variables.specs.Kinds.{surface_index, apply_clamp, least_curvature, radius_of, with_value, put_at, put, followed}
use Rattle.variables.specs.Active.{num_active, active_at}
use Rattle.variables.specs.Values.{stored_at, applied_to, applied}
use Rattle.variables.specs.Taken.{lower_bound_taken, variables_taken, minus_taken, follower_taken, followers_taken}
use Rattle.variables.proofs.TakenLaws.{VariableTaken, active-taken, active-follower}
use Rattle.floatlaws.specs.Order.{lt-le-trans}

-- a value of that kind of which check 3 has nothing to say: of a curvature, any finite one
abbrev pub allowed : VariableType → Float → Bool
allowed (Curvature i) x = finite_of x
allowed (Thickness i) x = within x
allowed (Conic i) x = finite_of x
allowed (SemiDiameter i) x = above_zero_up_to billion x

-- ---- a radius made of a finite curvature is a number
zero-tiny : (s : Bool) (e : ℤ) → lt (magnitude (fin s 0 e)) least_curvature ≡ true
unfolding lt magnitude of_bits
zero-tiny s e = is_true _ (lt→ltb _ _ (below (up e) (down e) (down_pos e)))
  where
    below : (u d : ℕ) → 0 < d → 0 * u * 4951760157141521099596496896 < 4951760157141521 * 1 * d
    below u d h = omega arith

-- a curvature that is not that small is not zero
not-tiny : (x : Float) → lt (magnitude x) least_curvature ≡ false → T (not (eq x (fin false 0 (pos 0))))
unfolding eq
not-tiny nan h = tt
not-tiny (inf s) h = tt
not-tiny (fin s zero e) h = absurd (true≢false (sym (zero-tiny s e) ∙ h))
not-tiny (fin s (suc m) e) h = not_T (eq (fin s (suc m) e) (fin false 0 (pos 0))) (λ t. not-zero s m e (is_true (eq (fin s (suc m) e) (fin false 0 (pos 0))) t))

one-finite : Finite one64
unfolding of_bits
one-finite = tt

radius-number : (x : Float) → T (finite_of x) → Number (radius_of x)
unfolding radius_of is_nan
radius-number x t = go (lt (magnitude x) least_curvature) refl
  where
    go : (b : Bool) → lt (magnitude x) least_curvature ≡ b → Number (cond b (inf false) (div binary64 one64 x))
    go true e = tt
    go false e = quotient-number binary64 one64 x one-finite (finite-test x t) (not-tiny x e)

-- ---- one surface with an allowed value
with-value-taken : (s : OpticalSurface) (kind : VariableType) (x : Float) → T (allowed kind x) → T (surface_taken s) → T (surface_taken (with_value s kind x))
with-value-taken s (Curvature i) x a t =
    let p = surface-parts s t in
    surface-from _ (record { radius = radius-number x a; conic = p.conic; thickness = p.thickness; semi_diameter = p.semi_diameter })
with-value-taken s (Thickness i) x a t =
    let p = surface-parts s t in surface-from _ (record { radius = p.radius; conic = p.conic; thickness = a; semi_diameter = p.semi_diameter })
with-value-taken s (Conic i) x a t =
    let p = surface-parts s t in
    surface-from _ (record { radius = p.radius; conic = finite-test x a; thickness = p.thickness; semi_diameter = p.semi_diameter })
with-value-taken s (SemiDiameter i) x a t =
    let p = surface-parts s t in surface-from _ (record { radius = p.radius; conic = p.conic; thickness = p.thickness; semi_diameter = a })

-- what holds of an entry holds of it after a store that keeps it
set_keeps : {A : Type 0} (P : A → Type 0) (l : List A) (j i : ℕ) (a d : A) → (P (get_or l j d) → P a) → P (get_or l i d) → P (get_or (set l j a) i d)
set_keeps P [] j i a d k h = h
set_keeps P (x ∷ xs) zero zero a d k h = k h
set_keeps P (x ∷ xs) zero (suc i) a d k h = h
set_keeps P (x ∷ xs) (suc j) zero a d k h = h
set_keeps P (x ∷ xs) (suc j) (suc i) a d k h = set_keeps P xs j i a d k h

-- any surface, after a value was stored in one of them
put-taken : (s : List OpticalSurface) (j : ℕ) (kind : VariableType) (x : Float) (i : ℕ) → T (allowed kind x) → T (surface_taken (surface_at s i))
    → T (surface_taken (surface_at (put_at s j kind x) i))
put-taken s j kind x i a t =
    set_keeps (λ (u : OpticalSurface). T (surface_taken u)) s j i (with_value (surface_at s j) kind x) no_surface (λ h. with-value-taken _ kind x a h) t

-- what refusal 17 lets be negated is allowed negated
negated-finite : (x : Float) → T (finite_of x) → T (finite_of (neg x))
unfolding neg finite_of
negated-finite nan t = t
negated-finite (inf s) t = t
negated-finite (fin s m e) t = tt

negated-allowed : (kind : VariableType) (x : Float) → T (minus_taken kind) → T (allowed kind x) → T (allowed kind (neg x))
negated-allowed (Curvature i) x s a = negated-finite x a
negated-allowed (Thickness i) x s a = absurd s
negated-allowed (Conic i) x s a = negated-finite x a
negated-allowed (SemiDiameter i) x s a = absurd s

-- any surface, after the follower received its value
followed-taken : (n : ℕ) (s : List OpticalSurface) (kind : VariableType) (f : Follower) (x : Float) (i : ℕ) → T (follower_taken n kind f)
    → T (allowed kind x) → T (surface_taken (surface_at s i)) → T (surface_taken (surface_at (followed s kind f x) i))
followed-taken n s kind None x i b a t = t
followed-taken n s kind (Plus j) x i b a t = put-taken s j kind x i a t
followed-taken n s kind (Minus j) x i b a t = put-taken s j kind (neg x) i (negated-allowed kind x (and_r (ltb j n) (minus_taken kind) b) a) t

-- ---- what applying clamps to lies between the bounds, a NaN too
module _ (x lo hi : Float) (order : T (le lo hi)) where
  clamped : (P : Float → Type 0) → P lo → (Number x → P (clamp_of x lo hi)) → P (apply_clamp x lo hi)
  clamped P l h = go (is_nan x) h
    where
      go : (b : Bool) → (T (not b) → P (clamp_of x lo hi)) → P (cond b lo (clamp_of x lo hi))
      go true h = l
      go false h = h tt

  apply-above : T (le lo (apply_clamp x lo hi))
  apply-above = clamped (λ (y : Float). T (le lo y)) (le-self lo (le-numbers lo hi order).0) (λ n. clamp-above x lo hi n order)

  apply-below : T (le (apply_clamp x lo hi) hi)
  apply-below = clamped (λ (y : Float). T (le y hi)) order (λ n. clamp-below x lo hi n order)

-- ---- bounds that check 4 takes let only allowed values through
module _ (n : ℕ) (d : VariableDef) (taken : VariableTaken n d) (x : Float) where
  abbrev lo : Float
  lo = d.min_value

  abbrev hi : Float
  hi = d.max_value

  abbrev y : Float
  y = apply_clamp x lo hi

  above : T (le lo y)
  above = apply-above x lo hi taken.order

  below : T (le y hi)
  below = apply-below x lo hi taken.order

  finite : T (finite_of y)
  finite = test-finite y (finite-between lo y hi (within-parts lo taken.low).finite (within-parts hi taken.high).finite above below)

  top : T (le y billion)
  top = le_trans y hi billion below (within-parts hi taken.high).below

  inside : T (within y)
  inside = within-from y (le_trans (neg billion) lo y (within-parts lo taken.low).above above) top

  apply-allowed : T (allowed d.var_type y)
  apply-allowed = go d.var_type taken.lower
    where
      go : (kind : VariableType) → T (lower_bound_taken kind lo) → T (allowed kind y)
      go (Curvature i) l = finite
      go (Thickness i) l = inside
      go (Conic i) l = finite
      go (SemiDiameter i) l = above_from billion y (record { above = lt-le-trans zero64 lo y l above; up_to = top })

-- ---- applying any values at all
module _ (n : ℕ) (v : VariableSet) (taken : T (variables_taken n v)) (follows : T (followers_taken n v)) where
  applied-to-taken : (values : List Float) (s : List OpticalSurface) (i m : ℕ) → m ≤ num_active v → T (surface_taken (surface_at s i))
      → T (surface_taken (surface_at (applied_to v values s m) i))
  unfolding applied_to
  applied-to-taken values s i zero h t = t
  applied-to-taken values s i (suc m) h t =
      let kind = (active_at v m).var_type in
      let x = stored_at v values m in
      let a = apply-allowed n (active_at v m) (active-taken n v taken m h) (get_or values m nan) in
      followed-taken n (put (applied_to v values s m) kind x) kind (active_at v m).follower x i (active-follower n v follows m h) a
      (put-taken (applied_to v values s m) (surface_index kind) kind x i a (applied-to-taken values s i m (omega arith) t))

  pub applied-taken : (values : List Float) (s : List OpticalSurface) (i : ℕ) → T (surface_taken (surface_at s i))
      → T (surface_taken (surface_at (applied v values s) i))
  unfolding applied
  applied-taken values s i t = applied-to-taken values s i (num_active v) (omega arith) t
