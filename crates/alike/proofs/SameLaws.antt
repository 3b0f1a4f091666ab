-- Arrays compared by a loop: what unlike lengths, one pair that is unlike, and all of them say. Assumes nothing.
use Rattle.std.specs.Prelude.{◌≡◌, refl, Bool, true, false, ◌&&◌, ℕ, ◌<◌, eqb}
use Rattle.std.proofs.Common.{eq-eqb, ne_eqb}
use Rattle.lists.specs.All.{all_below, not-all}

module _ (m n : ℕ) (alike : ℕ → Bool) where
  pub unlike-lengths : (m ≡ n → ⊥) → (eqb m n && all_below alike m) ≡ false
  unlike-lengths h = rw (ne_eqb m n h) refl

  pub unlike : m ≡ n → (i : ℕ) → i < m → alike i ≡ false → (eqb m n && all_below alike m) ≡ false
  unlike long i h e = rw (eq-eqb m n long, not-all alike m i h e) refl

  pub all_alike : m ≡ n → all_below alike m ≡ true → (eqb m n && all_below alike m) ≡ true
  all_alike long e = rw (eq-eqb m n long, e) refl
