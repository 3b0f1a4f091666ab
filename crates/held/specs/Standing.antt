-- Surfaces that stand in flat numbers and flat numbers are one to one. Assumes nothing.
use Rattle.std.specs.Prelude.{◌≡◌, refl, List, [], ◌∷◌, ◌++◌, ℕ, zero, suc, ◌+◌, ◌*◌, ◌≤◌, ◌<◌, Float, length, get_or, drop}
use Rattle.std.proofs.Common.{sym, ap, ◌∙◌, append_assoc, arith}
use Rattle.std.specs.Float.{nan}
use Rattle.lists.specs.Tab.{tab, length-tab, get_or-tab, tab-same, tab-self}
use Rattle.optics.specs.Types.{no_surface, surface_at, flat_surface}
use Rattle.optics.specs.Flat.{numbers_of, laid_flat}
use Rattle.optics.specs.FlatLaws.{flat-laid}
use Rattle.optics.specs.declared.types.OpticalSurface.{OpticalSurface}
use Rattle.held.specs.JobFrom.{standing}

-- what lies behind sixteen surfaces stays
pub record Behind (l l' : List Float) : Type 0 where
  pub long : length l' ≡ length l
  pub rest : drop 64 l' ≡ drop 64 l

pub behind-on : {a b c : List Float} → Behind a b → Behind b c → Behind a c
behind-on p q = record { long = q.long ∙ p.long; rest = q.rest ∙ p.rest }

-- a list of n is the one of its n entries
pub whole : {A : Type 0} (l : List A) (d : A) (n : ℕ) → length l ≡ n → tab (λ (i : ℕ). get_or l i d) n ≡ l
whole l d n e = rw e at (tab-self l d)

pub standing-long : (flat : List Float) → length (standing flat) ≡ 16
unfolding standing
standing-long flat = length-tab (flat_surface flat) 16

pub standing-at : (flat : List Float) (i : ℕ) → i < 16 → surface_at (standing flat) i ≡ flat_surface flat i
unfolding standing
standing-at flat i h = get_or-tab (flat_surface flat) 16 i no_surface h

-- what was laid stands
pub standing-laid : (s : List OpticalSurface) (rest : List Float) → length s ≡ 16 → standing (laid_flat s 16 ++ rest) ≡ s
unfolding standing
standing-laid s rest e = tab-same _ _ 16 (flat-laid s 16 rest) ∙ whole s no_surface 16 e

-- what stands lies there
pub all_laid : (flat : List Float) → laid_flat (standing flat) 16 ≡ tab (λ (i : ℕ). get_or flat i nan) 64
unfolding laid_flat standing tab
all_laid flat = refl

pub laid-standing : (flat : List Float) → length flat ≡ 64 → laid_flat (standing flat) 16 ≡ flat
laid-standing flat e = all_laid flat ∙ whole flat nan 64 e

-- so a contract that says which surfaces stand says each number
pub standing-one : (a b : List Float) → length a ≡ 64 → length b ≡ 64 → standing a ≡ standing b → a ≡ b
standing-one a b e f h = sym (laid-standing a e) ∙ ap (λ (s : List OpticalSurface). laid_flat s 16) h ∙ laid-standing b f

-- ---- the first surfaces that stand there lie there: the first numbers, four each
four-more : (g : ℕ → Float) (n : ℕ) → tab g (4 * suc n) ≡ tab g (4 * n) ++ (g (4 * n) ∷ g (4 * n + 1) ∷ g (4 * n + 2) ∷ g (4 * n + 3) ∷ [])
unfolding tab
four-more g n =
    ap (tab g) (more n)
    ∙ append_assoc (tab g (4 * n) ++ (g (4 * n) ∷ []) ++ (g (suc (4 * n)) ∷ [])) (g (suc (suc (4 * n))) ∷ []) (g (suc (suc (suc (4 * n)))) ∷ [])
    ∙ append_assoc (tab g (4 * n) ++ (g (4 * n) ∷ [])) (g (suc (4 * n)) ∷ []) _
    ∙ append_assoc (tab g (4 * n)) (g (4 * n) ∷ []) _
    ∙ (λ i. tab g (4 * n) ++ (g (4 * n) ∷ g (one (4 * n) i) ∷ g (two (4 * n) i) ∷ g (three (4 * n) i) ∷ []))
  where
    more : (n : ℕ) → 4 * suc n ≡ suc (suc (suc (suc (4 * n))))
    more n = omega arith

    one : (k : ℕ) → suc k ≡ k + 1
    one k = omega arith

    two : (k : ℕ) → suc (suc k) ≡ k + 2
    two k = omega arith

    three : (k : ℕ) → suc (suc (suc k)) ≡ k + 3
    three k = omega arith

pub first-laid : (flat : List Float) (n : ℕ) → n ≤ 16 → laid_flat (standing flat) n ≡ tab (λ (i : ℕ). get_or flat i nan) (4 * n)
unfolding laid_flat tab
first-laid flat zero h = refl
first-laid flat (suc n) h = (λ i. first-laid flat n (omega arith) i ++ numbers_of (standing-at flat n h i)) ∙ sym (four-more (λ (i : ℕ). get_or flat i nan) n)
