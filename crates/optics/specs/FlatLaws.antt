-- Surfaces laid flat read back as they were. Assumes nothing.
use Rattle.std.specs.Prelude.{◌≡◌, refl, ℕ, zero, suc, ◌+◌, ◌*◌, ◌≤◌, ◌<◌, List, ◌++◌, Float, length, get_or, set, take, drop}
use Rattle.std.proofs.Common.{sym, ap, ◌∙◌, append_assoc, inl, inr, add-zero, eq-or-lt_of_le, le_of_suc-le-suc, add-one, arith, length-append, length-drop}
use Rattle.std.proofs.Common.{get_or-append-add, drop-drop, take_at}
use Rattle.std.specs.Float.{nan}
use Rattle.std.proofs.Math.Seq.{drop-append-add}
use Rattle.std.proofs.lemmas.List.Edits.{sets, sets-eq}
use Rattle.optics.specs.Types.{surface_at, flat_surface}
use Rattle.optics.specs.Flat.{numbers_of, laid_flat}
use Rattle.optics.specs.declared.types.OpticalSurface.{OpticalSurface}

pub length-laid : (surfaces : List OpticalSurface) (n : ℕ) → length (laid_flat surfaces n) ≡ 4 * n
unfolding laid_flat
length-laid surfaces zero = refl
length-laid surfaces (suc n) = rw (length-append, length-laid surfaces n) (more n)
  where
    more : (n : ℕ) → 4 * n + 4 ≡ 4 * suc n
    more n = omega arith

-- the numbers of a surface, behind a part of four for each surface before it
flat-at : (p rest : List Float) (n : ℕ) (s : OpticalSurface) → length p ≡ 4 * n → flat_surface (p ++ (numbers_of s ++ rest)) n ≡ s
flat-at p rest n s e =
    λ i. record {
      radius_mm = (ap (λ (k : ℕ). get_or (p ++ (numbers_of s ++ rest)) k nan) (sym e ∙ sym (add-zero (length p)))
          ∙ at 0) i;
      conic_constant = field 1 i;
      thickness_mm = field 2 i;
      semi_diameter_mm = field 3 i;
    }
  where
    at : (j : ℕ) → get_or (p ++ (numbers_of s ++ rest)) (length p + j) nan ≡ get_or (numbers_of s ++ rest) j nan
    at j = get_or-append-add p (numbers_of s ++ rest) j nan

    field : (j : ℕ) → get_or (p ++ (numbers_of s ++ rest)) (4 * n + j) nan ≡ get_or (numbers_of s ++ rest) j nan
    field j = ap (λ (k : ℕ). get_or (p ++ (numbers_of s ++ rest)) (k + j) nan) (sym e) ∙ at j

pub flat-laid : (surfaces : List OpticalSurface) (n : ℕ) (rest : List Float) (i : ℕ) → i < n
    → flat_surface (laid_flat surfaces n ++ rest) i ≡ surface_at surfaces i
unfolding laid_flat
flat-laid surfaces zero rest i h = absurd (no i h)
  where
    no : (i : ℕ) → i < 0 → ⊥
    no i h = omega arith
flat-laid surfaces (suc n) rest i h =
    ap (λ (l : List Float). flat_surface l i) (append_assoc (laid_flat surfaces n) (numbers_of (surface_at surfaces n)) rest)
    ∙ elim (eq-or-lt_of_le (le_of_suc-le-suc h)) [
      | inl e ↦ rw e (flat-at (laid_flat surfaces n) rest n (surface_at surfaces n) (length-laid surfaces n))
      | inr l ↦ flat-laid surfaces n (numbers_of (surface_at surfaces n) ++ rest) i l
    ]

-- four stores write the numbers of a surface
pub four-stored : (l : List Float) (i : ℕ) (s : OpticalSurface)
    → set (set (set (set l i s.radius_mm) (i + 1) s.conic_constant) (i + 2) s.thickness_mm) (i + 3) s.semi_diameter_mm
    ≡ sets l i (numbers_of s)
four-stored l i s =
    λ j. set (set (set (set l i s.radius_mm) (add-one i j) s.conic_constant) (two i j) s.thickness_mm) (three i j) s.semi_diameter_mm
  where
    two : (i : ℕ) → i + 2 ≡ suc (suc i)
    two i = omega arith

    three : (i : ℕ) → i + 3 ≡ suc (suc (suc i))
    three i = omega arith

-- four stores make the laid part longer by one surface
pub laid_more : (surfaces : List OpticalSurface) (l p : List Float) (k : ℕ) → p ≡ laid_flat surfaces k ++ drop (4 * k) l → 4 * k + 4 ≤ length l
    → set (set (set (set p (4 * k) (surface_at surfaces k).radius_mm) (4 * k + 1) (surface_at surfaces k).conic_constant) (4 * k + 2)
    (surface_at surfaces k).thickness_mm) (4 * k + 3) (surface_at surfaces k).semi_diameter_mm
    ≡ laid_flat surfaces (k + 1) ++ drop (4 * (k + 1)) l
unfolding laid_flat
laid_more surfaces l p k e h = rw e (four-stored (q ++ drop i l) i s ∙ sets-eq (numbers_of s) (q ++ drop i l) i room ∙ parts ∙ rw add-one)
  where
    s : OpticalSurface
    s = surface_at surfaces k

    q : List Float
    q = laid_flat surfaces k

    i : ℕ
    i = 4 * k

    more : (k : ℕ) → 4 * k + 4 ≡ 4 * suc k
    more k = omega arith

    room : i + 4 ≤ length (q ++ drop i l)
    room = rw (length-append, length-laid surfaces k, length-drop) (omega arith)

    past : drop (i + 4) (q ++ drop i l) ≡ drop (4 * suc k) l
    past =
        ap (λ (n : ℕ). drop (n + 4) (q ++ drop i l)) (sym (length-laid surfaces k))
        ∙ drop-append-add q (drop i l) 4
        ∙ drop-drop 4 i l
        ∙ ap (λ (n : ℕ). drop n l) (more k)

    parts : take i (q ++ drop i l) ++ numbers_of s ++ drop (i + 4) (q ++ drop i l) ≡ (q ++ numbers_of s) ++ drop (4 * suc k) l
    parts = rw (take_at q (drop i l) i (length-laid surfaces k), past)
