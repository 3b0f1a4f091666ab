-- The normal equations as they stand in scratch after the loops that write them. Assumes nothing.
use mathlib.Core.Path.{◌≡◌, refl, ap, ◌∙◌}
use mathlib.Core.List.{List}
use mathlib.Core.Logic.{inl, inr}
use mathlib.Core.Bool.{Bool, true, false}
use Prim.Native.Nat.{ℕ, zero, suc, ◌+◌, ◌≤◌, ◌<◌}
use native.Mathlib.Nat.{eq-or-lt_of_le, le_of_suc-le-suc, not-suc-le-zero}
use native.Mathlib.Omega.{arith}
use lib.Dec.{eqb}
use lib.ListN.{length, get_or, length-set}
use lib.Seq.{length-sets, get_or-set_same, get_or-set_other}
use lib.Ieee.{Float, nan}
use borrow.Author.Tests.{eqb-true, eqb-false}
use Rattle.lists.specs.Tab.{tab}
use Rattle.normal.specs.Layout.{scratch_length, product_at, product_length, gradient_at, most_variables, place}
use Rattle.normal.specs.Products.{Matrix, Vector, normal_product, gradient_of, norm_of}
use Rattle.normal.specs.Scratch.{Outside, gradient_in, Equations}
use Rattle.normal.specs.Loops.{with_product, with_product_row, with_products, with_gradient}
use Rattle.normal.proofs.Parts.{part_in, part_out}
use Rattle.normal.proofs.Sums.{symmetric, norm-same}
use Rattle.normal.proofs.Triangle.{place-below, place-swap, place_same}

module _ (m : ℕ) (jacobian : Matrix) where
  abbrev Held : List Float → ℕ → ℕ → Type 0
  Held l a b = get_or l (product_at + place a b) nan ≡ normal_product m jacobian a b

  -- a product held is held for the columns in either order
  turned_round : (l : List Float) (a b : ℕ) → Held l a b → Held l b a
  turned_round l a b e = ap (λ (x : ℕ). get_or l (product_at + x) nan) (place-swap b a) ∙ e ∙ symmetric m jacobian a b

  product-long : (i j : ℕ) (l : List Float) → length (with_product m jacobian i j l) ≡ length l
  unfolding with_product
  product-long i j l = length-set l (product_at + place i j) (normal_product m jacobian i j)

  row-long : (i n : ℕ) (l : List Float) → length (with_product_row m jacobian i n l) ≡ length l
  unfolding with_product_row
  row-long i zero l = refl
  row-long i (suc n) l = product-long i n (with_product_row m jacobian i n l) ∙ row-long i n l

  pub products-long : (n : ℕ) (l : List Float) → length (with_products m jacobian n l) ≡ length l
  unfolding with_products
  products-long zero l = refl
  products-long (suc n) l = row-long n (suc n) (with_products m jacobian n l) ∙ products-long n l

  module _ (l : List Float) (i j : ℕ) (hi : i < 8) (hj : j < 8) (h : scratch_length ≤ length l) where
    product-new : Held (with_product m jacobian i j l) i j
    unfolding with_product
    product-new = get_or-set_same l (product_at + place i j) (normal_product m jacobian i j) nan (omega (arith, place-below i j hi hj))

    product-kept : (a b : ℕ) → Held l a b → Held (with_product m jacobian i j l) a b
    unfolding with_product
    product-kept a b e = go (eqb (place a b) (place i j)) refl
      where
        apart : (place a b ≡ place i j → ⊥) → product_at + place a b ≡ product_at + place i j → ⊥
        apart n q = n (omega arith)

        go : (t : Bool) → eqb (place a b) (place i j) ≡ t → Held (with_product m jacobian i j l) a b
        go true t =
            let same = eqb-true (place a b) (place i j) t in
            ap (λ (x : ℕ). get_or (with_product m jacobian i j l) (product_at + x) nan) same ∙ product-new ∙ place_same m jacobian i j a b same
        go false t =
            get_or-set_other l (product_at + place i j) (product_at + place a b) (normal_product m jacobian i j) nan
            (apart (eqb-false (place a b) (place i j) t))
            ∙ e

    product-out : (x : ℕ) → product_at + product_length ≤ x → get_or (with_product m jacobian i j l) x nan ≡ get_or l x nan
    unfolding with_product
    product-out x hx = get_or-set_other l (product_at + place i j) x (normal_product m jacobian i j) nan (omega (arith, place-below i j hi hj))

  module _ (l : List Float) (i : ℕ) (hi : i < 8) (h : scratch_length ≤ length l) where
    still : (n : ℕ) → scratch_length ≤ length (with_product_row m jacobian i n l)
    still n = rw (row-long i n l) h

    row_kept : (n a b : ℕ) → n ≤ 8 → Held l a b → Held (with_product_row m jacobian i n l) a b
    unfolding with_product_row
    row_kept zero a b hn e = e
    row_kept (suc n) a b hn e = product-kept (with_product_row m jacobian i n l) i n hi hn (still n) a b (row_kept n a b (omega arith) e)

    row_new : (n j : ℕ) → n ≤ 8 → j < n → Held (with_product_row m jacobian i n l) i j
    unfolding with_product_row
    row_new zero j hn hj = absurd (not-suc-le-zero hj)
    row_new (suc n) j hn hj = elim (eq-or-lt_of_le (le_of_suc-le-suc hj)) [
      | inl e ↦ rw e (product-new (with_product_row m jacobian i n l) i n hi hn (still n))
      | inr b ↦ product-kept (with_product_row m jacobian i n l) i n hi hn (still n) i j (row_new n j (omega arith) b)
    ]

    row_out : (n x : ℕ) → n ≤ 8 → product_at + product_length ≤ x → get_or (with_product_row m jacobian i n l) x nan ≡ get_or l x nan
    unfolding with_product_row
    row_out zero x hn hx = refl
    row_out (suc n) x hn hx = product-out (with_product_row m jacobian i n l) i n hi hn (still n) x hx ∙ row_out n x (omega arith) hx

  module _ (l : List Float) (h : scratch_length ≤ length l) where
    enough : (n : ℕ) → scratch_length ≤ length (with_products m jacobian n l)
    enough n = rw (products-long n l) h

    pub products-hold : (n a b : ℕ) → n ≤ 8 → a < n → b < n → Held (with_products m jacobian n l) a b
    unfolding with_products
    products-hold zero a b hn ha hb = absurd (not-suc-le-zero ha)
    products-hold (suc n) a b hn ha hb = elim (eq-or-lt_of_le (le_of_suc-le-suc ha)) [
      | inl e ↦ rw e (row_new (with_products m jacobian n l) n hn (enough n) (suc n) b hn hb)
      | inr ka ↦ elim (eq-or-lt_of_le (le_of_suc-le-suc hb)) [
        | inl e ↦ rw e (turned_round (with_products m jacobian (suc n) l) n a (row_new (with_products m jacobian n l) n hn (enough n) (suc n) a hn ha))
        | inr kb ↦ row_kept (with_products m jacobian n l) n hn (enough n) (suc n) a b hn (products-hold n a b (omega arith) ka kb)
      ]
    ]

    pub products-out : (n x : ℕ) → n ≤ 8 → product_at + product_length ≤ x → get_or (with_products m jacobian n l) x nan ≡ get_or l x nan
    unfolding with_products
    products-out zero x hn hx = refl
    products-out (suc n) x hn hx = row_out (with_products m jacobian n l) n hn (enough n) (suc n) x hn hx ∙ products-out n x (omega arith) hx

-- what the two loops leave
module _ (m p : ℕ) (jacobian : Matrix) (residuals : Vector) (l l' : List Float) (r : Float) (most : p ≤ 8) (h : scratch_length ≤ length l)
    (e : l' ≡ with_gradient m jacobian residuals p (with_products m jacobian p l)) (er : r ≡ norm_of p (gradient_in l')) where
  outside : (x : ℕ) → Outside gradient_at p x → get_or l' x nan ≡ get_or (with_products m jacobian p l) x nan
  outside x o = ap (λ (y : List Float). get_or y x nan) e ∙ part_out (gradient_of m jacobian residuals) (with_products m jacobian p l) gradient_at p x nan o

  gradient-holds : (i : ℕ) → i < p → get_or l' (gradient_at + i) nan ≡ gradient_of m jacobian residuals i
  gradient-holds i b =
      ap (λ (y : List Float). get_or y (gradient_at + i) nan) e
      ∙ part_in (gradient_of m jacobian residuals) (with_products m jacobian p l) gradient_at p i nan b (rw (products-long m jacobian p l) (omega arith))

  pub equations : Equations m p jacobian residuals l l' r
  equations = record {
    stand = record {
      product =
          λ i j hi hj. outside (product_at + place i j) (inl (omega (arith, place-below i j (omega arith) (omega arith))))
          ∙ products-hold m jacobian l h p i j most hi hj;
      gradient = gradient-holds;
    };
    norm = er ∙ norm-same p (gradient_in l') (gradient_of m jacobian residuals) gradient-holds;
    long = ap length e ∙ length-sets (with_products m jacobian p l) gradient_at (tab (gradient_of m jacobian residuals) p) ∙ products-long m jacobian p l;
    rest = λ x o og. outside x (narrow x og) ∙ products-out m jacobian l h p x most (beyond x o);
  }
    where
      narrow : (x : ℕ) → Outside gradient_at most_variables x → Outside gradient_at p x
      narrow x (inl b) = inl b
      narrow x (inr b) = inr (omega arith)

      beyond : (x : ℕ) → Outside product_at product_length x → product_at + product_length ≤ x
      beyond x (inl b) = absurd (not-suc-le-zero b)
      beyond x (inr b) = omega arith
