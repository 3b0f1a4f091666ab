-- A run that asks for one merit at a time: it is over, or it asks for the evaluation of some surfaces and goes on with the answer.
-- No evaluation, no trace and no row stands in this file. Assumes nothing.
use Rattle.std.specs.Prelude.{◌≡◌, Bool, true, false, List}
use Rattle.std.proofs.Math.Path.{refl, ap, fun_ext}
use Rattle.std.proofs.Common.{sym, ◌∙◌}
use Prim.Native.Nat.{ℕ, zero, suc}
use Rattle.optics.specs.declared.types.OpticalSurface.{OpticalSurface}
use Rattle.merit.specs.declared.types.MeritEvaluation.{MeritEvaluation}

abbrev pub Surfaces : Type 0
Surfaces = List OpticalSurface

pub data Run (A : Type 0) : Type 0 where
  done : A → Run A
  ask : Surfaces → (MeritEvaluation → Run A) → Run A

-- the merit of some surfaces, with each operand's value and residual
abbrev pub evaluate : Surfaces → Run MeritEvaluation
evaluate s = ask s λ e. done e

-- one run, and then another that goes by its result
unfoldable pub bind : {A B : Type 0} → Run A → (A → Run B) → Run B
bind (done a) f = f a
bind (ask s k) f = ask s λ e. bind (k e) f

infixl 20 ◌>>=◌
abbrev pub ◌>>=◌ : {A B : Type 0} → Run A → (A → Run B) → Run B
m >>= f = bind m f

pub bind_assoc : {A B C : Type 0} (m : Run A) (f : A → Run B) (g : B → Run C) → bind (bind m f) g ≡ bind m (λ a. bind (f a) g)
unfolding bind
bind_assoc (done a) f g = refl
bind_assoc (ask s k) f g = ap (ask s) (fun_ext λ e. bind_assoc (k e) f g)

module _ {A : Type 0} where
  -- the run after one merit; a run that is over stays
  unfoldable pub after_merit : (Surfaces → MeritEvaluation) → Run A → Run A
  after_merit f (done a) = done a
  after_merit f (ask s k) = k (f s)

  -- "After k merits, from k = 0, it stands just before the next or at its end"
  unfoldable pub after_merits : (Surfaces → MeritEvaluation) → ℕ → Run A → Run A
  after_merits f zero m = m
  after_merits f (suc k) m = after_merit f (after_merits f k m)

  -- no merit comes next
  unfoldable pub is_done : Run A → Bool
  is_done (done a) = true
  is_done (ask s k) = false

  pub after_first : (f : Surfaces → MeritEvaluation) (k : ℕ) (m : Run A) → after_merits f k (after_merit f m) ≡ after_merit f (after_merits f k m)
  unfolding after_merits
  after_first f zero m = refl
  after_first f (suc k) m = ap (after_merit f) (after_first f k m)

  pub after-done : (f : Surfaces → MeritEvaluation) (k : ℕ) (a : A) → after_merits f k (done a) ≡ done a
  unfolding after_merits after_merit
  after-done f zero a = refl
  after-done f (suc k) a = rw (after-done f k a)

-- what the run comes to under an evaluation
unfoldable pub value : {A : Type 0} → (Surfaces → MeritEvaluation) → Run A → A
value f (done a) = a
value f (ask s k) = value f (k (f s))

pub value-bind : {A B : Type 0} (f : Surfaces → MeritEvaluation) (m : Run A) (g : A → Run B) → value f (bind m g) ≡ value f (g (value f m))
unfolding value bind
value-bind f (done a) g = refl
value-bind f (ask s k) g = value-bind f (k (f s)) g

-- no merit changes what it comes to, and at its end it has come to it
value-once : {A : Type 0} (f : Surfaces → MeritEvaluation) (m : Run A) → value f (after_merit f m) ≡ value f m
unfolding value after_merit
value-once f (done a) = refl
value-once f (ask s k) = refl

value_after : {A : Type 0} (f : Surfaces → MeritEvaluation) (k : ℕ) (m : Run A) → value f (after_merits f k m) ≡ value f m
unfolding after_merits
value_after f zero m = refl
value_after f (suc k) m = value-once f (after_merits f k m) ∙ value_after f k m

pub value-done : {A : Type 0} (f : Surfaces → MeritEvaluation) (k : ℕ) (m : Run A) (a : A) → after_merits f k m ≡ done a → value f m ≡ a
unfolding value
value-done f k m a h = sym (value_after f k m) ∙ ap (value f) h
