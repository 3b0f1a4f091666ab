-- What stands in flat numbers after a surface was stored there, or all were copied. Assumes nothing.
use Prim.Native.Nat.{ℕ, suc, ◌+◌, ◌*◌, ◌≤◌, ◌<◌}
use mathlib.Core.Bool.{Bool, true, false}
use mathlib.Core.Path.{◌≡◌, refl, sym, ap, ◌∙◌}
use mathlib.Core.List.{List, [], ◌∷◌, ◌++◌}
use mathlib.Core.Logic.{◌⊎◌, inl, inr}
use native.Mathlib.Nat.{add-zero, eq-or-lt_of_le}
use native.Mathlib.Omega.{arith}
use borrow.Author.Tests.{ltb-true, ltb-false}
use lib.Dec.{ltb}
use lib.Ieee.{Float, nan}
use lib.ListN.{length, get_or, set, drop, length-set}
use lib.Seq.{sets, length-sets, get_or-set_same, get_or-set_other, drop-set-lt, drop-append_seam, set_out}
use Rattle.lists.specs.Tab.{tab, tab-same, length-tab}
use Rattle.lists.specs.Parts.{get_or-sets-in, get_or-sets-out}
use Rattle.optics.specs.Types.{no_surface, flat_surface}
use Rattle.optics.specs.Flat.{numbers_of}
use Rattle.optics.specs.FlatLaws.{four-stored}
use Rattle.optics.specs.declared.types.OpticalSurface.{OpticalSurface}
use Rattle.variables.specs.declared.types.VariableType.{VariableType}
use Rattle.variables.specs.Kinds.{with_value, put_at}
use Rattle.held.specs.JobFrom.{standing}
use Rattle.held.specs.Standing.{Behind, whole, standing-long, standing-at, standing-laid, all_laid}

behind-sets : (vs l : List Float) (at : ℕ) → at + length vs ≤ 64 → drop 64 (sets l at vs) ≡ drop 64 l
behind-sets [] l at h = refl
behind-sets (v ∷ vs) l at h = behind-sets vs (set l at v) (suc at) (room at (length vs) h) ∙ drop-set-lt 64 l at v (omega arith)
  where
    room : (at n : ℕ) → at + suc n ≤ 64 → suc at + n ≤ 64
    room at n g = omega arith

module _ (flat : List Float) (i : ℕ) (s : OpticalSurface) (h : i < 16) (g : 64 ≤ length flat) where
  abbrev stored : List Float
  stored = set (set (set (set flat (4 * i) s.radius_mm) (4 * i + 1) s.conic_constant) (4 * i + 2) s.thickness_mm) (4 * i + 3)
      s.semi_diameter_mm

  -- the surface itself
  here : flat_surface (sets flat (4 * i) (numbers_of s)) i ≡ s
  here = λ t. record {
    radius_mm = (ap (λ (k : ℕ). get_or (sets flat (4 * i) (numbers_of s)) k nan) (sym (add-zero (4 * i)))
        ∙ field 0 (omega arith)) t;
    conic_constant = field 1 (omega arith) t;
    thickness_mm = field 2 (omega arith) t;
    semi_diameter_mm = field 3 (omega arith) t;
  }
    where
      field : (k : ℕ) → k < 4 → get_or (sets flat (4 * i) (numbers_of s)) (4 * i + k) nan ≡ get_or (numbers_of s) k nan
      field k b = get_or-sets-in (numbers_of s) flat (4 * i) k nan b (omega arith)

  -- every other
  there : (j : ℕ) → (j < i) ⊎ (i < j) → flat_surface (sets flat (4 * i) (numbers_of s)) j ≡ flat_surface flat j
  there j o =
      λ t. record {
        radius_mm = (ap (λ (k : ℕ). get_or (sets flat (4 * i) (numbers_of s)) k nan) (sym (add-zero (4 * j))) ∙ field 0 (omega arith)
            ∙ ap (λ (k : ℕ). get_or flat k nan) (add-zero (4 * j))) t;
        conic_constant = field 1 (omega arith) t;
        thickness_mm = field 2 (omega arith) t;
        semi_diameter_mm = field 3 (omega arith) t;
      }
    where
      away : (k : ℕ) → k < 4 → (j < i) ⊎ (i < j) → (4 * j + k < 4 * i) ⊎ (4 * i + 4 ≤ 4 * j + k)
      away k b (inl l) = inl (omega arith)
      away k b (inr l) = inr (omega arith)

      field : (k : ℕ) → k < 4 → get_or (sets flat (4 * i) (numbers_of s)) (4 * j + k) nan ≡ get_or flat (4 * j + k) nan
      field k b = get_or-sets-out (numbers_of s) flat (4 * i) (4 * j + k) nan (away k b o)

  long : i < length (standing flat)
  long = rw (standing-long flat) h

  other : (j : ℕ) → j < 16 → (j < i) ⊎ (i < j) → flat_surface (sets flat (4 * i) (numbers_of s)) j ≡ get_or (set (standing flat) i s) j no_surface
  other j b o = there j o ∙ sym (standing-at flat j b) ∙ sym (get_or-set_other (standing flat) i j s no_surface (apart o))
    where
      apart : (j < i) ⊎ (i < j) → j ≡ i → ⊥
      apart (inl l) e = omega arith
      apart (inr l) e = omega arith

  entry : (j : ℕ) → j < 16 → flat_surface (sets flat (4 * i) (numbers_of s)) j ≡ get_or (set (standing flat) i s) j no_surface
  entry j b = by (ltb j i) refl
    where
      by : (t : Bool) → ltb j i ≡ t → flat_surface (sets flat (4 * i) (numbers_of s)) j ≡ get_or (set (standing flat) i s) j no_surface
      by true e = other j b (inl (ltb-true j i e))
      by false e = elim (eq-or-lt_of_le (ltb-false j i e)) [
        | inl q ↦ ap (flat_surface (sets flat (4 * i) (numbers_of s))) (sym q) ∙ here ∙ sym (get_or-set_same (standing flat) i s no_surface long)
            ∙ ap (λ (k : ℕ). get_or (set (standing flat) i s) k no_surface) q
        | inr l ↦ other j b (inr l)
      ]

  pub standing-stored : standing stored ≡ set (standing flat) i s
  unfolding standing
  standing-stored =
      ap standing (four-stored flat (4 * i) s)
      ∙ tab-same _ _ 16 entry
      ∙ whole (set (standing flat) i s) no_surface 16 (length-set (standing flat) i s ∙ standing-long flat)

  pub behind-stored : Behind flat stored
  behind-stored =
      record {
        long = ap length (four-stored flat (4 * i) s) ∙ length-sets flat (4 * i) (numbers_of s);
        rest = ap (drop 64) (four-stored flat (4 * i) s)
            ∙ behind-sets (numbers_of s) flat (4 * i) (omega arith);
      }

-- ---- one step more, and what came of it under another name
pub further : {a b c d : List Float} → Behind a b → Behind b c → d ≡ c → Behind a d
further p q e = record { long = ap length e ∙ q.long ∙ p.long; rest = ap (drop 64) e ∙ q.rest ∙ p.rest }

-- ---- a value stored in a surface, and nothing where there is none
module _ (flat : List Float) (at : ℕ) (kind : VariableType) (x : Float) where
  pub put-stored : (old new : OpticalSurface) → at < 16 → old ≡ flat_surface flat at → new ≡ with_value old kind x
      → set (standing flat) at new ≡ put_at (standing flat) at kind x
  put-stored old new h eo en = rw (en, eo ∙ sym (standing-at flat at h))

  pub put-past : 16 ≤ at → standing flat ≡ put_at (standing flat) at kind x
  put-past h = sym (set_out (standing flat) at _ (rw (standing-long flat) h))

-- ---- sixty-four numbers copied
module _ (flat to to' : List Float) (e : to' ≡ tab (λ (k : ℕ). get_or flat k nan) 64 ++ drop 64 to) where
  pub standing-copied : standing to' ≡ standing flat
  standing-copied =
      ap standing (e ∙ ap (λ (l : List Float). l ++ drop 64 to) (sym (all_laid flat))) ∙ standing-laid (standing flat) (drop 64 to) (standing-long flat)

  pub behind-copied : 64 ≤ length to → length to' ≡ length to → Behind to to'
  behind-copied g l =
      record {
        long = l;
        rest = ap (drop 64) e ∙ rw (length-tab (λ (k : ℕ). get_or flat k nan) 64) at
            (drop-append_seam (tab (λ (k : ℕ). get_or flat k nan) 64) (drop 64 to));
      }
