-- Which merits a run works out under an evaluation, and how many. Assumes nothing.
use Rattle.std.specs.Prelude.{◌≡◌, ◌⊎◌, false}
use Rattle.std.proofs.Math.Path.{refl, sym, ap}
use Rattle.std.proofs.Common.{◌∙◌, zero-add, suc-add, arith}
use Rattle.std.proofs.Math.Logic.{inl, inr}
use Prim.Native.Nat.{ℕ, zero, suc, ◌+◌, ◌<◌}
use Rattle.merit.specs.declared.types.MeritEvaluation.{MeritEvaluation}
use Rattle.runs.specs.Run.{Surfaces, Run, done, ask, bind, after_merit, after_merits, is_done, after_first, value}

module _ {A : Type 0} (f : Surfaces → MeritEvaluation) where
  -- the run works out the merit of surfaces s
  unfoldable pub Asks : Run A → Surfaces → Type 0
  Asks (done a) s = ⊥
  Asks (ask t k) s = (s ≡ t) ⊎ Asks (k (f t)) s

  unfoldable pub merit_count : Run A → ℕ
  merit_count (done a) = 0
  merit_count (ask t k) = suc (merit_count (k (f t)))

-- what comes next, before which the run stands
abbrev pub asked : {A : Type 0} → Surfaces → Run A → Surfaces
asked d (done a) = d
asked d (ask s k) = s

module _ {A B : Type 0} (f : Surfaces → MeritEvaluation) where
  -- two runs, one after the other: a merit is one of either, and there are as many as of both
  pub Asks-bind : (m : Run A) (g : A → Run B) (s : Surfaces) → Asks f (bind m g) s → Asks f m s ⊎ Asks f (g (value f m)) s
  unfolding Asks bind value
  Asks-bind (done a) g s h = inr h
  Asks-bind (ask t k) g s (inl e) = inl (inl e)
  Asks-bind (ask t k) g s (inr h) = elim (Asks-bind (k (f t)) g s h) [ inl q ↦ inl (inr q) | inr q ↦ inr q ]

  pub count-bind : (m : Run A) (g : A → Run B) → merit_count f (bind m g) ≡ merit_count f m + merit_count f (g (value f m))
  unfolding merit_count bind value
  count-bind (done a) g = sym (zero-add _)
  count-bind (ask t k) g = ap suc (count-bind (k (f t)) g) ∙ sym (suc-add _ _)

  -- before the first run's merits are over, the next is one of them
  pub asks-early : (m : Run A) (g : A → Run B) (n : ℕ) (s : Surfaces) (next : MeritEvaluation → Run B) → n < merit_count f m
      → after_merits f n (bind m g) ≡ ask s next → Asks f m s
  unfolding Asks merit_count bind after_merits after_merit
  asks-early (done a) g n s next l h = absurd (omega arith)
  asks-early (ask t k) g zero s next l h = inl (sym (ap (asked s) h))
  asks-early (ask t k) g (suc n) s next l h =
      inr (asks-early (k (f t)) g n s next (omega arith) (after_first f n (bind (ask t k) g) ∙ h))

  -- and it is not over
  pub goes_on : (m : Run A) (g : A → Run B) (n : ℕ) → n < merit_count f m → is_done (after_merits f n (bind m g)) ≡ false
  unfolding merit_count bind after_merits after_merit is_done
  goes_on (done a) g n l = absurd (omega arith)
  goes_on (ask t k) g zero l = refl
  goes_on (ask t k) g (suc n) l = ap (λ (r : Run B). is_done r) (sym (after_first f n (bind (ask t k) g))) ∙ goes_on (k (f t)) g n (omega arith)
