-- Elimination, column by column: the loop's invariant, and what it leaves. Assumes nothing.
use mathlib.Core.Path.{◌≡◌, refl, sym, ap, ◌∙◌}
use mathlib.Core.List.{List}
use Rattle.std.proofs.lemmas.Bool.{false≢true}
use mathlib.Core.Bool.{true, false, not}
use Prim.Native.Nat.{ℕ, suc, ◌+◌, ◌-◌, ◌≤◌, ◌<◌}
use native.Mathlib.Numerals.{add-one}
use native.Mathlib.Omega.{arith}
use lib.ListN.{length, get_or}
use lib.Ieee.{Float, nan, eq}
use Rattle.lists.specs.All.{all_below, all_more, not-all}
use Rattle.floats.specs.Constants.{zero64}
use Rattle.normal.specs.Layout.{scratch_length, system_at, system_length, system_place}
use Rattle.normal.specs.Products.{Matrix}
use Rattle.normal.specs.Elimination.{pivoted, eliminated, pivot_of, solvable}
use Rattle.normal.specs.Scratch.{Outside}
use Rattle.normal.specs.Loops.{Live, pivot_brought, rows_reduced, Eliminated}
use Rattle.normal.proofs.Exchange.{brought-live, brought-long, brought-out}
use Rattle.normal.proofs.Reduce.{reduced-live, rows_long, rows_out}

-- c columns of the system in l₀ are done in l, and no pivot was zero
pub record Stage (p c : ℕ) (l₀ l : List Float) : Type 0 where
  pub live : (a : Matrix) → Live p 0 l₀ a → Live p c l (eliminated p a c)
  pub pivots : (a : Matrix) → Live p 0 l₀ a → all_below (λ (k : ℕ). not (eq (pivot_of p a k) zero64)) c ≡ true
  pub long : length l ≡ length l₀
  pub rest : (x : ℕ) → Outside system_at system_length x → get_or l x nan ≡ get_or l₀ x nan

pub stage-none : (p : ℕ) (l : List Float) → Stage p 0 l l
unfolding eliminated all_below
stage-none p l = record { live = λ a h. h; pivots = λ a h. refl; long = refl; rest = λ x o. refl }

pub stage-all : (p : ℕ) (l₀ l : List Float) → Stage p p l₀ l → Eliminated p l₀ l true
unfolding solvable
stage-all p l₀ l s = record {
  answer = λ a h. sym (s.pivots a h);
  done = λ a h e. s.live a h;
  long = s.long;
  rest = s.rest;
}

module _ (p c : ℕ) (l₀ l b : List Float) (pivot : Float) (s : Stage p c l₀ l) (below : c < p) (most : p ≤ 8) (enough : scratch_length ≤ length l₀)
    (brought : b ≡ pivot_brought p c l) (is : pivot ≡ get_or b (system_place c c) nan) where
  room : scratch_length ≤ length l
  room = rw s.long enough

  long-b : length b ≡ length l₀
  long-b = ap length brought ∙ brought-long p c l ∙ s.long

  rest-b : (x : ℕ) → Outside system_at system_length x → get_or b x nan ≡ get_or l₀ x nan
  rest-b x o = ap (λ (y : List Float). get_or y x nan) brought ∙ brought-out p c l below most x o ∙ s.rest x o

  live-b : (a : Matrix) → Live p 0 l₀ a → Live p c b (pivoted p c (eliminated p a c))
  live-b a h i j hi hc hj =
      ap (λ (y : List Float). get_or y (system_place i j) nan) brought ∙ brought-live p c l (eliminated p a c) below most room (s.live a h) i j hi hc hj

  pivot-is : (a : Matrix) → Live p 0 l₀ a → pivot ≡ pivot_of p a c
  unfolding pivot_of
  pivot-is a h = is ∙ live-b a h c c below (omega arith) (omega arith)

  pub stage-stop : eq pivot zero64 ≡ true → Eliminated p l₀ b false
  unfolding solvable
  stage-stop z = record {
    answer = λ a h. sym
        (not-all (λ (k : ℕ). not (eq (pivot_of p a k) zero64)) p c below (ap (λ (x : Float). not (eq x zero64)) (sym (pivot-is a h))
        ∙ ap not z));
    done = λ a h e. absurd (false≢true e);
    long = long-b;
    rest = rest-b;
  }

  pub stage-more : (l' : List Float) → eq pivot zero64 ≡ false → l' ≡ rows_reduced p c pivot (p - suc c) b → Stage p (c + 1) l₀ l'
  unfolding eliminated pivot_of
  stage-more l' z e = record {
    live = λ a h i j hi hc hj.
        ap (λ (y : List Float). get_or y (system_place i j) nan) e
        ∙ reduced-live p c b pivot below most (rw long-b enough) (pivoted p c (eliminated p a c)) (live-b a h) (pivot-is a h) i j hi (omega arith) hj
        ∙ ap (λ (n : ℕ). eliminated p a n i j) (sym (add-one c));
    pivots = λ a h. all_more (λ (k : ℕ). not (eq (pivot_of p a k) zero64)) c (s.pivots a h)
        (ap (λ (x : Float). not (eq x zero64)) (sym (pivot-is a h)) ∙ ap not z);
    long = ap length e ∙ rows_long p c b pivot below most (rw long-b enough) (p - suc c) ∙ long-b;
    rest = λ x o. ap (λ (y : List Float). get_or y x nan) e ∙ rows_out p c b pivot below most (rw long-b enough) (p - suc c) (omega arith) x o ∙ rest-b x o;
  }
