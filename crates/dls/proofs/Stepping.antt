-- Parameters moved by a step that stands in scratch, one after the other. Assumes nothing.
use mathlib.Core.Path.{◌≡◌, refl, ap, sym, ◌∙◌}
use mathlib.Core.Bool.{Bool, true, false, cond}
use mathlib.Core.List.{List}
use Prim.Native.Nat.{ℕ, ◌+◌, ◌<◌}
use native.Mathlib.Omega.{arith}
use lib.Dec.{ltb, eqb}
use lib.ListN.{length, get_or, set, length-set}
use lib.Seq.{get_or-set_same, get_or-set_other, ext_get_or}
use lib.Ieee.{Float, nan, binary64, add}
use borrow.Author.Tests.{ltb-true, ltb-false, eqb-true, eqb-false, lt-ltb, le-ltb}
use Rattle.lists.specs.Tab.{length-tab, get_or-tab, tab-same, tab-self}
use Rattle.normal.specs.Layout.{step_at, most_variables}
use Rattle.dls.specs.DampedSteps.{stepped_in}

module _ (params l : List Float) where
  abbrev at : ℕ → Float
  at q = add binary64 (get_or params q nan) (get_or l (step_at + q) nan)

  pub stepped-none : length params ≡ most_variables → params ≡ stepped_in params 0 l
  stepped-none e =
      sym (tab-self params nan)
      ∙ rw e (tab-same _ _ most_variables (λ q h. ap (λ (b : Bool). cond b (at q) (get_or params q nan)) (sym (le-ltb q 0 (omega arith)))))

  pub stepped-more : (q : ℕ) → q < most_variables → set (stepped_in params q l) q (at q) ≡ stepped_in params (q + 1) l
  stepped-more q h =
      ext_get_or nan (set (stepped_in params q l) q (at q)) (stepped_in params (q + 1) l) (simp (length-set, length-tab))
      (λ k g. entry k (rw (length-set (stepped_in params q l) q (at q), length-tab) at g) (eqb k q) refl)
    where
      further : (k : ℕ) → (k ≡ q → ⊥) → (b : Bool) → ltb k q ≡ b → ltb k q ≡ ltb k (q + 1)
      further k n true e = e ∙ sym (lt-ltb k (q + 1) (omega (arith, ltb-true k q e)))
      further k n false e = e ∙ sym (le-ltb k (q + 1) (omega (arith, ltb-false k q e)))

      entry : (k : ℕ) → k < most_variables → (b : Bool) → eqb k q ≡ b → get_or (set (stepped_in params q l) q (at q)) k nan
          ≡ get_or (stepped_in params (q + 1) l) k nan
      entry k g true e =
          let s : k ≡ q = eqb-true k q e in
          rw s
          (get_or-set_same (stepped_in params q l) q (at q) nan (rw length-tab h)
          ∙ ap (λ (b : Bool). cond b (at q) (get_or params q nan)) (sym (lt-ltb q (q + 1) (omega arith)))
          ∙ sym (get_or-tab _ most_variables q nan h))
      entry k g false e =
          get_or-set_other (stepped_in params q l) q k (at q) nan (eqb-false k q e)
          ∙ get_or-tab _ most_variables k nan g
          ∙ ap (λ (b : Bool). cond b (at k) (get_or params k nan)) (further k (eqb-false k q e) (ltb k q) refl)
          ∙ sym (get_or-tab _ most_variables k nan g)
