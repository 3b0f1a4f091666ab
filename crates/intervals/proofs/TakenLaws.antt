-- The call refuses by 19 exactly the lack of what `Taken` lists: an end worked out on the way is finite where those answered are. Assumes nothing.
use Rattle.std.specs.Prelude.{◌≡◌, refl, Bool, true, false, not, ◌&&◌, [], ◌∷◌, ◌↔◌, leb, Float, replicate}
use Rattle.std.proofs.Common.{sym, ◌∙◌, le→leb, leb-true, leb-false}
use Rattle.std.proofs.Math.Path.{subst}
use Rattle.std.proofs.lemmas.Bool.{false≢true}
use Prim.Native.Nat.{ℕ, zero, suc, ◌-◌, ◌<◌, ◌≤◌}
use native.Mathlib.Omega.{arith}
use Rattle.std.proofs.Math.Dec.{T, leb→le}
use Rattle.std.specs.Float.{nan, inf, fin, binary64}
use Rattle.std.specs.Float.Ieee.{neg, add, sub, div}
use Rattle.std.specs.Float.Ieee.Fits.{and_i, and_l, and_r}
use Rattle.std.proofs.Math.ListN.{get_or-append}
use Rattle.floats.specs.Basic.{finite_of}
use Rattle.floatlaws.specs.Fractions.{Finite}
use Rattle.floatlaws.specs.CallerLaws.{test-finite}
use Rattle.lists.specs.All.{all_below, all-at, all_from}
use Rattle.lists.specs.Refusals.{refusal, NoneOf, none_of, none-front, none_both, let_through, not-refusing}
use Rattle.lists.specs.Tab.{tab, length-tab, get_or-tab}
use Rattle.optics.specs.Types.{surface_at, slot_index}
use Rattle.optics.specs.declared.types.OpticalPrescription.{OpticalPrescription}
use Rattle.optics.specs.declared.types.OpticalSurface.{OpticalSurface}
use Rattle.merit.specs.Calls.{trace_refusals}
use Rattle.merit.proofs.CallLaws.{none}
use Rattle.intervals.specs.Interval.{plus, minus, over, crossed, ends_finite, no_interval, zero_interval}
use Rattle.intervals.proofs.IntervalLaws.{Bounds, bounds}
use Rattle.intervals.specs.Limits.{carried, bent, turned, slope_behind, transfer, refraction_finite, transfer_finite, track_limits}
use Rattle.intervals.specs.Limits.{arriving, arrival_finite}
use Rattle.intervals.specs.Calls.{thickness_at, given_taken, all_given, sixteen, height_at, slope_at, finite_at, lens_limits, limits_taken, limits_refusals}
use Rattle.intervals.specs.Calls.{limits_number}
use Rattle.intervals.proofs.CallLaws.{limits-19, limits-0}
use Rattle.intervals.specs.Within.{entry, Taken}
use Rattle.intervals.specs.declared.types.ArrivingLimits.{ArrivingLimits}
use Rattle.intervals.specs.declared.types.Interval.{Interval}
use Rattle.intervals.specs.declared.types.ThicknessLimits.{ThicknessLimits}

-- entry k of one for each surface
pub entry-is : (f : ℕ → Interval) (n k : ℕ) → k < n → entry (sixteen f n) k ≡ f k
entry-is f n k h = get_or-append (tab f n) (replicate (16 - n) zero_interval) no_interval k (rw (length-tab f n) h) ∙ get_or-tab f n k no_interval h

-- ---- what is worked out of an end that is not finite is not finite either
sum-finite : (x y : Float) → Finite (add binary64 x y) → Finite x × Finite y
unfolding add
sum-finite nan y h = absurd h
sum-finite (inf s) nan h = absurd h
sum-finite (inf false) (inf false) h = absurd h
sum-finite (inf false) (inf true) h = absurd h
sum-finite (inf true) (inf false) h = absurd h
sum-finite (inf true) (inf true) h = absurd h
sum-finite (inf s) (fin t n d) h = absurd h
sum-finite (fin s m e) nan h = absurd h
sum-finite (fin s m e) (inf t) h = absurd h
sum-finite (fin s m e) (fin t n d) h = (tt, tt)

neg-finite : (x : Float) → Finite (neg x) → Finite x
unfolding neg
neg-finite nan h = h
neg-finite (inf s) h = h
neg-finite (fin s m e) h = tt

difference-finite : (x y : Float) → Finite (sub binary64 x y) → Finite x × Finite y
unfolding sub
difference-finite x y h =
    let p = sum-finite x (neg y) h in
    (p.0, neg-finite y p.1)

quotient-finite : (x y : Float) → Finite (div binary64 x y) → Finite x
unfolding div
quotient-finite nan y h = h
quotient-finite (inf s) nan h = h
quotient-finite (inf s) (inf t) h = h
quotient-finite (inf s) (fin t n d) h = h
quotient-finite (fin s m e) y h = tt

test-bounds : (a : Interval) → Bounds a → T (ends_finite a)
unfolding ends_finite
test-bounds a b = and_i (finite_of a.low) (finite_of a.high) (test-finite a.low b.low) (test-finite a.high b.high)

plus-ends : (a b : Interval) → T (ends_finite (plus a b)) → T (ends_finite a) × T (ends_finite b)
plus-ends a b t =
    let h = bounds (plus a b) t in
    let l = sum-finite a.low b.low h.low in
    let g = sum-finite a.high b.high h.high in
    (test-bounds a (record { low = l.0; high = g.0 }), test-bounds b (record { low = l.1; high = g.1 }))

minus-ends : (a b : Interval) → T (ends_finite (minus a b)) → T (ends_finite a) × T (ends_finite b)
minus-ends a b t =
    let h = bounds (minus a b) t in
    let l = difference-finite a.low b.high h.low in
    let g = difference-finite a.high b.low h.high in
    (test-bounds a (record { low = l.0; high = g.0 }), test-bounds b (record { low = g.1; high = l.1 }))

over-ends : (a : Interval) (n : Float) → T (ends_finite (over a n)) → T (ends_finite a)
over-ends a n t =
    let h = bounds (over a n) t in
    test-bounds a (record { low = quotient-finite a.low n h.low; high = quotient-finite a.high n h.high })

-- ---- a refraction, a transfer, the track
refraction : (radius n' : Float) (a : ArrivingLimits) → T (ends_finite (slope_behind radius n' a)) → T (refraction_finite radius n' a)
unfolding refraction_finite
refraction radius n' a t =
    let u = over-ends (turned radius n' a) n' t in
    let p = minus-ends (carried a) (bent radius n' a) u in
    and_i (ends_finite (carried a) && ends_finite (bent radius n' a)) (ends_finite (turned radius n' a) && ends_finite (slope_behind radius n' a))
    (and_i (ends_finite (carried a)) (ends_finite (bent radius n' a)) p.0 p.1)
    (and_i (ends_finite (turned radius n' a)) (ends_finite (slope_behind radius n' a)) u t)

refraction-ends : (radius n' : Float) (a : ArrivingLimits) → T (refraction_finite radius n' a) → T (ends_finite (slope_behind radius n' a))
unfolding refraction_finite
refraction-ends radius n' a t =
    and_r (ends_finite (turned radius n' a)) (ends_finite (slope_behind radius n' a))
    (and_r (ends_finite (carried a) && ends_finite (bent radius n' a)) (ends_finite (turned radius n' a) && ends_finite (slope_behind radius n' a)) t)

track-before : (thickness : ℕ → Interval) (m n : ℕ) → m ≤ n → T (ends_finite (track_limits thickness n)) → T (ends_finite (track_limits thickness m))
unfolding track_limits
track-before thickness m zero h t = subst (λ (k : ℕ). T (ends_finite (track_limits thickness k))) (sym (none m h)) t
track-before thickness m (suc n) h t = go (leb m n) refl (λ l. track-before thickness m n l (plus-ends (track_limits thickness n) (thickness n) t).0)
  where
    go : (b : Bool) → leb m n ≡ b → (m ≤ n → T (ends_finite (track_limits thickness m))) → T (ends_finite (track_limits thickness m))
    go true e earlier = earlier (leb-true _ _ e)
    go false e earlier = subst (λ (k : ℕ). T (ends_finite (track_limits thickness k))) (sym (last m n h (leb-false _ _ e))) t
      where
        last : (m n : ℕ) → m ≤ suc n → n < m → m ≡ suc n
        last m n h l = omega arith

module _ (p : OpticalPrescription) (l : ThicknessLimits) (slot : ℕ) where
  abbrev count : ℕ
  count = p.surface_count

  abbrev surface : ℕ → OpticalSurface
  surface = surface_at p.surfaces

  abbrev index : ℕ → Float
  index = slot_index p.indices slot

  abbrev pupil : Float
  pupil = p.entrance_pupil_diameter_mm

  abbrev arrives : ℕ → Bool
  arrives = arrival_finite surface (thickness_at l) index pupil

  abbrev refracts : ℕ → Bool
  refracts k = refraction_finite (surface k).radius_mm (index k) (arriving surface (thickness_at l) index pupil k)

  abbrev along : ℕ → Bool
  along k = ends_finite (track_limits (thickness_at l) k)

  -- ---- the height at surface k
  arrival : (k : ℕ) → T (ends_finite (height_at p l slot k)) → T (arrives k)
  unfolding arriving arrival_finite transfer_finite
  arrival zero t = t
  arrival (suc k) t =
      let a = arriving surface (thickness_at l) index pupil k in
      let moved = transfer (thickness_at l k) (surface k).radius_mm (index k) a in
      and_i (ends_finite moved) (ends_finite (plus a.y moved)) (plus-ends a.y moved t).1 t

  arrival-ends : (k : ℕ) → T (arrives k) → T (ends_finite (height_at p l slot k))
  unfolding arriving arrival_finite transfer_finite
  arrival-ends zero t = t
  arrival-ends (suc k) t =
      let a = arriving surface (thickness_at l) index pupil k in
      let moved = transfer (thickness_at l k) (surface k).radius_mm (index k) a in
      and_r (ends_finite moved) (ends_finite (plus a.y moved)) t

  high : (k : ℕ) → k < count → entry (lens_limits p l slot).heights k ≡ height_at p l slot k
  high k h = entry-is (height_at p l slot) count k h

  steep : (k : ℕ) → k < count → entry (lens_limits p l slot).slopes k ≡ slope_at p l slot k
  steep k h = entry-is (slope_at p l slot) count k h

  -- ---- both ways
  taken : T (limits_taken p l slot) → Taken p l slot
  unfolding limits_taken
  taken t =
      let b = and_l (leb 2 count && all_given l count) (all_below (finite_at p l slot) count) t in
      let two = leb→le 2 count (and_l (leb 2 count) (all_given l count) b) in
      let given : (k : ℕ) → k < count → T (given_taken (thickness_at l k)) =
      λ k m. all-at (λ (k : ℕ). given_taken (thickness_at l k)) count k (and_r (leb 2 count) (all_given l count) b) m in
      let worked : (k : ℕ) → k < count → T (finite_at p l slot k) =
      λ k m. all-at (finite_at p l slot) count k (and_r (leb 2 count && all_given l count) (all_below (finite_at p l slot) count) t) m in
      record {
        two = two;
        uncrossed = λ k m. and_l (not (crossed (thickness_at l k))) (ends_finite (thickness_at l k)) (given k m);
        given = λ k m. and_r (not (crossed (thickness_at l k))) (ends_finite (thickness_at l k)) (given k m);
        heights = λ k m. subst (λ (a : Interval). T (ends_finite a)) (sym (high k m))
            (arrival-ends k (and_l (arrives k) (refracts k) (and_l (arrives k && refracts k) (along (suc k)) (worked k m))));
        slopes = λ k m. subst (λ (a : Interval). T (ends_finite a)) (sym (steep k m))
            (refraction-ends (surface k).radius_mm (index k) (arriving surface (thickness_at l) index pupil k)
            (and_r (arrives k) (refracts k) (and_l (arrives k && refracts k) (along (suc k)) (worked k m))));
        track = whole count two (λ k m. and_r (arrives k && refracts k) (along (suc k)) (worked k m));
      }
    where
      whole : (n : ℕ) → 2 ≤ n → ((k : ℕ) → k < n → T (along (suc k))) → T (along n)
      whole zero h f = absurd (no h)
        where
          no : 2 ≤ 0 → ⊥
          no h = omega arith
      whole (suc n) h f = f n (self n)
        where
          self : (n : ℕ) → n < suc n
          self n = omega arith

  is-taken : Taken p l slot → T (limits_taken p l slot)
  unfolding limits_taken
  is-taken h =
      and_i (leb 2 count && all_given l count) (all_below (finite_at p l slot) count)
      (and_i (leb 2 count) (all_given l count) (le→leb 2 count h.two)
      (all_from _ _ (λ k m. and_i (not (crossed (thickness_at l k))) (ends_finite (thickness_at l k)) (h.uncrossed k m) (h.given k m))))
      (all_from _ _ (λ k m. and_i (arrives k && refracts k) (along (suc k))
      (and_i (arrives k) (refracts k) (arrival k (subst (λ (a : Interval). T (ends_finite a)) (high k m) (h.heights k m)))
      (refraction (surface k).radius_mm (index k) (arriving surface (thickness_at l) index pupil k)
      (subst (λ (a : Interval). T (ends_finite a)) (steep k m) (h.slopes k m))))
      (track-before (thickness_at l) (suc k) count (up k count m) h.track)))
    where
      up : (k n : ℕ) → k < n → suc k ≤ n
      up k n h = omega arith

  -- ---- the numbers
  pub refused-19 : (limits_number p l slot ≡ 19) ↔ ((Taken p l slot → ⊥) × NoneOf (trace_refusals p slot count))
  refused-19 = (λ e. to ((limits-19 p l slot).0 e), λ h. (limits-19 p l slot).1 (lacks (limits_taken p l slot) taken h.0, h.1))
    where
      to : (not (limits_taken p l slot) ≡ true) × NoneOf (trace_refusals p slot count) → (Taken p l slot → ⊥) × NoneOf (trace_refusals p slot count)
      to h = (λ t. refuses (limits_taken p l slot) h.0 (is-taken t), h.1)
        where
          refuses : (b : Bool) → not b ≡ true → T b → ⊥
          refuses true e t = false≢true e
          refuses false e t = t

      lacks : (b : Bool) → (T b → Taken p l slot) → (Taken p l slot → ⊥) → not b ≡ true
      lacks true f g = absurd (g (f tt))
      lacks false f g = refl

  pub answered-0 : (limits_number p l slot ≡ 0) ↔ (Taken p l slot × NoneOf (trace_refusals p slot count))
  answered-0 = (λ e. to ((limits-0 p l slot).0 e), λ h. (limits-0 p l slot).1 (from h))
    where
      to : NoneOf (limits_refusals p l slot) → Taken p l slot × NoneOf (trace_refusals p slot count)
      to h =
          let rest = none-front (trace_refusals p slot count) (refusal 19 (not (limits_taken p l slot)) ∷ []) h in
          (taken (let_through (limits_taken p l slot) (none_of (limits_refusals p l slot) 19 h)), rest)

      from : Taken p l slot × NoneOf (trace_refusals p slot count) → NoneOf (limits_refusals p l slot)
      from h =
          let t = limits_taken p l slot in
          none_both (trace_refusals p slot count) (refusal 19 (not t) ∷ []) h.1 (not-refusing t (is-taken h.0), tt)
