-- What the call makes of its parts. Assumes nothing.
use mathlib.Core.Path.{◌≡◌, refl, sym, ap, ◌∙◌}
use mathlib.Core.Bool.{Bool, true, false, not, cond}
use Prim.Native.Nat.{ℕ, zero, suc, ◌≤◌, ◌<◌}
use borrow.Author.Tests.{le-leb, lt-leb}
use Rattle.std.specs.Prelude.{Option, Some, None, Ok, Err}
use Rattle.std.specs.Option.{ok_or}
use Rattle.lists.specs.All.{all_below}
use Rattle.refusals.specs.Numbers.{number_of, numbered, value_unless}
use Rattle.refusals.proofs.Laws.{number-distinct, value-refused}
use Rattle.refusals.specs.declared.Refusal.{Refusal}
use Rattle.refusals.specs.declared.Refusal.TheVariants.{BadLimits}
use Rattle.optics.specs.declared.types.OpticalPrescription.{OpticalPrescription}
use Rattle.merit.specs.Calls.{unless_refused, trace_number}
use Rattle.intervals.specs.Calls.{all_given, finite_at, lens_limits, limits_taken, limits_number, limits_as, limits_traced}
use Rattle.intervals.proofs.CallLaws.{number_is}
use Rattle.intervals.specs.declared.types.ThicknessLimits.{ThicknessLimits}
use Rattle.intervals.specs.declared.types.TraceLimits.{TraceLimits}

-- the limits decide
by-taken : (b : Bool) (o : Option TraceLimits) (new : TraceLimits) → o ≡ cond b (Some new) None
    → numbered (ok_or o BadLimits) ≡ value_unless (cond (not b) 19 0) new
by-taken true o new e = ap (λ (p : Option TraceLimits). numbered (ok_or p BadLimits)) e
by-taken false o new e = ap (λ (p : Option TraceLimits). numbered (ok_or p BadLimits)) e

module _ (p : OpticalPrescription) (l : ThicknessLimits) (slot : ℕ) where
  abbrev new : TraceLimits
  new = lens_limits p l slot

  -- ---- by value
  pub by-trace : (r : Refusal) → number_of r ≡ trace_number p slot p.surface_count → Err (number_of r) ≡ limits_traced p l slot
  unfolding limits_traced
  by-trace r e =
      let h = (number-distinct r).0 in
      value-refused r _ new (sym ((number_is p l slot (number_of r) (sym e)).0 h))

  pub by-limits : 0 ≡ trace_number p slot p.surface_count → (o : Option TraceLimits) → o ≡ cond (limits_taken p l slot) (Some new) None
      → numbered (ok_or o BadLimits) ≡ limits_traced p l slot
  unfolding limits_traced
  by-limits e o q = by-taken (limits_taken p l slot) o new q ∙ sym (ap (λ (n : ℕ). value_unless n new) ((number_is p l slot 0 (sym e)).1 refl))

  -- ---- what the tests make of `limits_taken`
  pub too_few : p.surface_count < 2 → limits_taken p l slot ≡ false
  unfolding limits_taken
  too_few h = simp (lt-leb 2 p.surface_count h)

  module _ (two : 2 ≤ p.surface_count) where
    pub not-given : all_given l p.surface_count ≡ false → limits_taken p l slot ≡ false
    unfolding limits_taken
    not-given g = simp (le-leb 2 p.surface_count two, g)

    pub taken_as : all_given l p.surface_count ≡ true → limits_taken p l slot ≡ all_below (finite_at p l slot) p.surface_count
    unfolding limits_taken
    taken_as g = simp (le-leb 2 p.surface_count two, g)

  -- ---- what the lent call keeps or stores
  module _ (old : TraceLimits) where
    pub limits-kept : (r : Refusal) → Err (number_of r) ≡ limits_traced p l slot → (number_of r ≡ limits_number p l slot) × (old ≡ limits_as old p l slot)
    unfolding limits_traced
    limits-kept r e = go (limits_number p l slot) refl e
      where
        go : (n : ℕ) → limits_number p l slot ≡ n → Err (number_of r) ≡ value_unless n new
            → (number_of r ≡ limits_number p l slot) × (old ≡ limits_as old p l slot)
        go zero q f = absurd (cc)
        go (suc n) q f = (cc, sym (ap (λ (k : ℕ). unless_refused k new old) q))

    pub limits-stored : (new' : TraceLimits) → Ok new' ≡ limits_traced p l slot → (0 ≡ limits_number p l slot) × (new' ≡ limits_as old p l slot)
    unfolding limits_traced
    limits-stored new' e = go (limits_number p l slot) refl e
      where
        go : (n : ℕ) → limits_number p l slot ≡ n → Ok new' ≡ value_unless n new → (0 ≡ limits_number p l slot) × (new' ≡ limits_as old p l slot)
        go zero q f = (sym q, (cc) ∙ sym (ap (λ (k : ℕ). unless_refused k new old) q))
        go (suc n) q f = absurd (cc)
