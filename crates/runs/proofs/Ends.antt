-- That a run ends within a number of merits, in a result of which something holds. Assumes nothing.
use Rattle.std.specs.Prelude.{◌≡◌}
use Rattle.std.proofs.Math.Path.{sym}
use Rattle.std.proofs.Common.{◌∙◌, arith}
use Prim.Native.Nat.{ℕ, zero, suc, ◌+◌, ◌≤◌, ◌<◌}
use Rattle.merit.specs.declared.types.MeritEvaluation.{MeritEvaluation}
use Rattle.runs.specs.Run.{Surfaces, Run, done, ask, bind, after_merit, after_merits, after_first, after-done, value}

-- Ends within n merits, as long as each answer e to a question s satisfies Q s e, in a result of which P holds.
pub data Ends {A : Type 0} (Q : Surfaces → MeritEvaluation → Type 0) (P : A → Type 0) : ℕ → Run A → Type 0 where
  now : {n : ℕ} {a : A} → P a → Ends Q P n (done a)
  later : {n m : ℕ} {s : Surfaces} {k : MeritEvaluation → Run A} → n < m → ((e : MeritEvaluation) → Q s e → Ends Q P n (k e)) → Ends Q P m (ask s k)

-- whatever is answered, and whatever the result
abbrev pub AnyAnswer : Surfaces → MeritEvaluation → Type 0
AnyAnswer s e = Unit {0}

abbrev pub Any : {A : Type 0} → A → Type 0
Any a = Unit {0}

module _ {A : Type 0} {Q : Surfaces → MeritEvaluation → Type 0} where
  -- more merits are allowed
  pub Ends-more : {P : A → Type 0} {n : ℕ} {r : Run A} (m : ℕ) → n ≤ m → Ends Q P n r → Ends Q P m r
  Ends-more m h (now p) = now p
  Ends-more m h (later {n = i} lt k) = later {n = i} {m = m} (omega arith) k

  -- less is said of the result
  Ends-map : {P P' : A → Type 0} {n : ℕ} {r : Run A} → ((a : A) → P a → P' a) → Ends Q P n r → Ends Q P' n r
  Ends-map f (now {a = a} p) = now (f a p)
  Ends-map f (later {n = i} lt k) = later {n = i} lt (λ e q. Ends-map f (k e q))

  -- more is asked of the answers
  Ends-for : {Q' : Surfaces → MeritEvaluation → Type 0} {P : A → Type 0} {n : ℕ} {r : Run A} → ((s : Surfaces) (e : MeritEvaluation) → Q' s e → Q s e)
      → Ends Q P n r → Ends Q' P n r
  Ends-for f (now p) = now p
  Ends-for f (later {n = i} {s = s} lt k) = later {n = i} lt (λ e q. Ends-for f (k e (f s e q)))

  -- what it says of a run under an evaluation
  pub Ends-after : {P : A → Type 0} {n : ℕ} {r : Run A} (f : Surfaces → MeritEvaluation) → ((s : Surfaces) → Q s (f s)) → Ends Q P n r → (m : ℕ) → n ≤ m
      → (a : A) × P a × (after_merits f m r ≡ done a)
  unfolding after_merits after_merit
  Ends-after f fine (now {a = a} p) m le = (a, p, after-done f m a)
  Ends-after f fine (later lt h) zero le = absurd (omega arith)
  Ends-after f fine (later {n = i} {s = s} {k = k} lt h) (suc m) le =
      let r = Ends-after f fine (h (f s) (fine s)) m (omega arith) in
      (r.0, r.1, sym (after_first f m (ask s k)) ∙ r.2)

  -- and of what the run comes to
  pub Ends-value : {P : A → Type 0} {n : ℕ} {r : Run A} (f : Surfaces → MeritEvaluation) → ((s : Surfaces) → Q s (f s)) → Ends Q P n r → P (value f r)
  unfolding value
  Ends-value f fine (now p) = p
  Ends-value f fine (later {s = s} lt h) = Ends-value f fine (h (f s) (fine s))

-- one run after another
pub Ends-bind : {A B : Type 0} {Q : Surfaces → MeritEvaluation → Type 0} {P : A → Type 0} {P' : B → Type 0} {n : ℕ} {r : Run A} (i : ℕ) (f : A → Run B) →
    Ends Q P n r → ((a : A) → P a → Ends Q P' i (f a)) → Ends Q P' (n + i) (bind r f)
unfolding bind
Ends-bind i f (now {n = n} {a = a} p) h = Ends-more (n + i) (omega arith) (h a p)
Ends-bind i f (later {n = n} {m = m} lt k) h = later {n = n + i} {m = m + i} (omega arith) (λ e q. Ends-bind i f (k e q) h)
