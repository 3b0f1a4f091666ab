-- What callers may use of the call's refusals: each number is answered exactly when its cause holds and no cause in front of it does. Assumes nothing.
use Rattle.std.specs.Prelude.{◌≡◌, refl, Bool, true, false, not, cond, ◌&&◌, [], ◌∷◌, ◌↔◌, ℕ, ◌≤◌, ◌<◌, leb, ltb, eqb}
use Rattle.std.proofs.Math.Path.{subst}
use Rattle.std.proofs.Common.{arith, eq-eqb}
use Rattle.std.proofs.Math.Dec.{T, leb→le}
use Rattle.std.specs.Float.Ieee.Fits.{and_l, and_r}
use Rattle.lists.specs.All.{all_below, all-at}
use Rattle.lists.specs.Refusals.{refusal, NoneOf, before, answers, answers-none, none_of, none-front, let_through}
use Rattle.optics.specs.Kept.{lens_counts_taken}
use Rattle.optics.specs.Check.{lens_taken}
use Rattle.optics.specs.declared.types.OpticalPrescription.{OpticalPrescription}
use Rattle.merit.specs.Calls.{trace_refusals, trace_number}
use Rattle.merit.specs.Passing.{Traceable}
use Rattle.merit.proofs.CallLaws.{traceable}
use Rattle.intervals.specs.Calls.{thickness_at, given_taken, all_given, finite_at, limits_taken, limits_refusals, limits_number}
use Rattle.intervals.specs.declared.types.ThicknessLimits.{ThicknessLimits}

-- what the trace answers is answered; where that is 0, the limits decide
behind-trace : (a b c : Bool) (d n : ℕ) → cond a 1 (cond b 3 (cond c 5 0)) ≡ n
    → (0 < n → cond a 1 (cond b 3 (cond c 5 d)) ≡ n) × (n ≡ 0 → cond a 1 (cond b 3 (cond c 5 d)) ≡ d)
behind-trace true b c d n e = (λ h. e, λ z. absurd (one n e z))
  where
    one : (n : ℕ) → 1 ≡ n → n ≡ 0 → ⊥
    one n e z = omega arith
behind-trace false true c d n e = (λ h. e, λ z. absurd (three n e z))
  where
    three : (n : ℕ) → 3 ≡ n → n ≡ 0 → ⊥
    three n e z = omega arith
behind-trace false false true d n e = (λ h. e, λ z. absurd (five n e z))
  where
    five : (n : ℕ) → 5 ≡ n → n ≡ 0 → ⊥
    five n e z = omega arith
behind-trace false false false d n e = (λ h. absurd (no n e h), λ z. refl)
  where
    no : (n : ℕ) → 0 ≡ n → 0 < n → ⊥
    no n e h = omega arith

module _ (p : OpticalPrescription) (l : ThicknessLimits) (slot : ℕ) where
  abbrev counted : Bool
  counted = lens_counts_taken p.surface_count p.slot_count && eqb p.surface_count p.surface_count

  -- "after all that a trace by itself checks"
  pub number_is : (n : ℕ) → trace_number p slot p.surface_count ≡ n
      → (0 < n → limits_number p l slot ≡ n) × (n ≡ 0 → limits_number p l slot ≡ cond (not (limits_taken p l slot)) 19 0)
  unfolding trace_number limits_number
  number_is n e = behind-trace (not counted) (not (lens_taken p)) (not (ltb slot p.slot_count)) (cond (not (limits_taken p l slot)) 19 0) n e

  -- the row is as long as the lens: there is none
  fits : counted ≡ lens_counts_taken p.surface_count p.slot_count
  fits =
      go (lens_counts_taken p.surface_count p.slot_count) (eqb p.surface_count p.surface_count)
      (eq-eqb p.surface_count p.surface_count refl)
    where
      go : (b e : Bool) → e ≡ true → (b && e) ≡ b
      go true e q = q
      go false e q = refl

  pub limits-1 : (limits_number p l slot ≡ 1) ↔ ((not (lens_counts_taken p.surface_count p.slot_count) ≡ true)
      × NoneOf (before 1 (limits_refusals p l slot)))
  unfolding limits_number
  limits-1 =
      subst (λ (b : Bool). (limits_number p l slot ≡ 1) ↔ ((not b ≡ true) × NoneOf (before 1 (limits_refusals p l slot)))) fits
      (answers (limits_refusals p l slot) 1 tt tt)

  pub limits-3 : (limits_number p l slot ≡ 3) ↔ ((not (lens_taken p) ≡ true) × NoneOf (before 3 (limits_refusals p l slot)))
  unfolding limits_number
  limits-3 = answers (limits_refusals p l slot) 3 tt tt

  pub limits-5 : (limits_number p l slot ≡ 5) ↔ ((not (ltb slot p.slot_count) ≡ true) × NoneOf (before 5 (limits_refusals p l slot)))
  unfolding limits_number
  limits-5 = answers (limits_refusals p l slot) 5 tt tt

  pub limits-19 : (limits_number p l slot ≡ 19) ↔ ((not (limits_taken p l slot) ≡ true) × NoneOf (before 19 (limits_refusals p l slot)))
  unfolding limits_number
  limits-19 = answers (limits_refusals p l slot) 19 tt tt

  pub limits-0 : (limits_number p l slot ≡ 0) ↔ NoneOf (limits_refusals p l slot)
  unfolding limits_number
  limits-0 = answers-none (limits_refusals p l slot) tt

  -- what a call that is not refused has passed
  pub record Limitable : Type 0 where
    pub traced : Traceable p slot p.surface_count
    pub two : 2 ≤ p.surface_count
    pub given : (k : ℕ) → k < p.surface_count → T (given_taken (thickness_at l k))
    pub worked : (k : ℕ) → k < p.surface_count → T (finite_at p l slot k)

  pub limitable : limits_number p l slot ≡ 0 → Limitable
  unfolding trace_number limits_taken
  limitable e =
      let h = limits-0.0 e in
      let count = p.surface_count in
      let t : T (limits_taken p l slot) = let_through (limits_taken p l slot) (none_of (limits_refusals p l slot) 19 h) in
      let b = and_l (leb 2 count && all_given l count) (all_below (finite_at p l slot) count) t in
      record {
        traced = traceable p slot count ((answers-none (trace_refusals p slot count) tt).1 (none-front (trace_refusals p slot count)
            (refusal 19 (not (limits_taken p l slot)) ∷ []) h));
        two = leb→le 2 count (and_l (leb 2 count) (all_given l count) b);
        given = λ k m. all-at (λ (k : ℕ). given_taken (thickness_at l k)) count k (and_r (leb 2 count) (all_given l count) b) m;
        worked = λ k m. all-at (finite_at p l slot) count k (and_r (leb 2 count && all_given l count) (all_below (finite_at p l slot) count) t) m;
      }
