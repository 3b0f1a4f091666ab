-- Where a dealing stands between two places: what is still to serve, and that all in all it is what the dealing serves. Assumes nothing.
use Rattle.std.specs.Prelude.{◌≡◌, refl, Bool, true, false, not, cond, ◌||◌, ltb, Float, replicate, drop, Result, Ok, Err}
use Rattle.std.proofs.Math.Path.{sym, ap}
use Rattle.std.proofs.Common.{◌∙◌, subst, zero-add, zero-lt-suc, lt-ltb, ltb-true, ltb-false}
use mathlib.Core.List.{List, [], ◌∷◌, ◌++◌}
use Prim.Native.Nat.{ℕ, zero, suc, ◌+◌, ◌-◌, ◌*◌, ◌<◌, ◌≤◌}
use native.Mathlib.Omega.{arith}
use Rattle.std.proofs.Math.ListN.{length}
use Rattle.std.proofs.Math.Seq.{drop-append_seam}
use Rattle.floats.specs.Constants.{zero64}
use Rattle.normal.specs.Layout.{scratch_length}
use Rattle.merit.specs.Calls.{unless_refused}
use Rattle.runs.specs.Cleared.{cleared}
use Rattle.runs.specs.Turn.{turned}
use Rattle.bench.specs.declared.types.Bench.{Bench}
use Rattle.bench.specs.declared.types.Dealt.{Dealt}
use Rattle.bench.specs.Refusals.{scratch_short}
use Rattle.bench.specs.Dealing.{place_after, Found, at, nowhere, first_from, next_served, served_if, served}
use Rattle.bench.proofs.Rounds.{after_small}
use Rattle.bench.specs.Book.{left_by}
use Rattle.bench.specs.Benches.{row_at, with_row}
use Rattle.bench.specs.Calls.{is_live, turn_number, turned_bench, scratch_after, deal_number, bench_dealer, served_bench, served_in, dealt_bench, dealt_of}
use Rattle.bench.specs.Calls.{cleared_by}
use Rattle.bench.specs.Calls.{dealt_scratch}
use Rattle.bench.proofs.Dealings.{with_next, starts-below, long, turn-taken, turn-live}
use Rattle.dealing.specs.declared.types.Round.{Round}
use Rattle.refusals.specs.Numbers.{value_unless}
use Rattle.dealing.specs.Rounds.{first_round, begun_of, served_of, passed_of, moved_of}

-- the places that n more turns serve, where the next is found to be this one
abbrev served_from : Found → (n : ℕ) → Bench → List ℕ
served_from f zero b = []
served_from f (suc n) b = served_if bench_dealer f (λ place. served bench_dealer n (served_bench b place))

-- from the place to try on, so many of the four being passed over
abbrev pub rest_of : Round → Bench → List ℕ
rest_of r b = served_from (first_from (λ place. is_live (row_at b place)) (4 - r.missed) r.at) (r.limit - r.dealt) b

-- a dealing of so many turns on the bench b₀ with the scratch s₀ stands at r, with the rows of b and the scratch s
pub record Standing (b₀ : Bench) (turns : ℕ) (s₀ : List Float) (r : Round) (b : Bench) (s : List Float) : Type 0 where
  pub bench : left_by served_bench (with_next b r.next) (rest_of r b) ≡ dealt_bench b₀ turns (length s₀)
  pub dealt : r.dealt + length (rest_of r b) ≡ length (served_in b₀ turns (length s₀))
  pub scratch : cleared_by (rest_of r b) s ≡ dealt_scratch b₀ turns s₀
  pub number : 0 ≡ deal_number b₀ (length s₀)
  pub long : length s ≡ length s₀
  pub goes : r.dealt < r.limit → (r.at < 4) × (r.missed < 4) × (scratch_short (length s₀) ≡ false)

-- one that is refused by this number deals nothing and changes nothing
pub record Undealt (b₀ : Bench) (turns : ℕ) (s₀ : List Float) (number : ℕ) : Type 0 where
  pub dealt : ◌≡◌ {A = Dealt} (record { dealt = 0; number = number }) (dealt_of b₀ turns (length s₀))
  pub bench : b₀ ≡ dealt_bench b₀ turns (length s₀)
  pub scratch : s₀ ≡ dealt_scratch b₀ turns s₀

-- how a dealing begins: it stands at its first round, or is refused
abbrev pub Begun : Bench → (turns : ℕ) → List Float → Result Round ℕ → Type 0
Begun b₀ turns s₀ (Ok r) = Standing b₀ turns s₀ r b₀ s₀
Begun b₀ turns s₀ (Err number) = Undealt b₀ turns s₀ number

-- the loop's measure
abbrev pub measure : Round → ℕ
measure r = 4 * (r.limit - r.dealt) + (3 - r.missed)

from_start : (n : ℕ) (b : Bench) → served_from (next_served bench_dealer b) n b ≡ served bench_dealer n b
unfolding served
from_start zero b = refl
from_start (suc n) b = refl

from-nowhere : (n : ℕ) (b : Bench) → served_from nowhere n b ≡ []
from-nowhere zero b = refl
from-nowhere (suc n) b = refl

-- the place to go next has no part in it
other-next : (f : Found) (n : ℕ) (b : Bench) (next : ℕ) → served_from f n b ≡ served_from f n (with_next b next)
other-next f zero b next = refl
other-next f (suc n) b next = refl

-- clearing twice is clearing once
cleared-again : (ps : List ℕ) (s : List Float) → cleared_by ps (cleared s) ≡ cleared s
cleared-again [] s = refl
cleared-again (p ∷ ps) s =
    ap (λ (l : List Float). replicate scratch_length zero64 ++ l) (drop-append_seam (replicate scratch_length zero64) (drop scratch_length s))

module _ (b₀ : Bench) (turns : ℕ) (s₀ : List Float) where
  -- ---- before the first place
  rest-begun : deal_number b₀ (length s₀) ≡ 0 → rest_of (first_round b₀ turns) b₀ ≡ served_in b₀ turns (length s₀)
  rest-begun e =
      ap (λ (n : ℕ). served_from (next_served bench_dealer b₀) n b₀) (same turns) ∙ from_start turns b₀
      ∙ ap (λ (k : ℕ). unless_refused k (served bench_dealer turns b₀) []) (sym e)
    where
      same : (n : ℕ) → n - 0 ≡ n
      same n = omega arith

  stands-at-first : deal_number b₀ (length s₀) ≡ 0 → Standing b₀ turns s₀ (first_round b₀ turns) b₀ s₀
  stands-at-first e = record {
    bench = ap (left_by served_bench b₀) (rest-begun e);
    dealt = zero-add _ ∙ ap length (rest-begun e);
    scratch = ap (λ (ps : List ℕ). cleared_by ps s₀) (rest-begun e);
    number = sym e;
    long = refl;
    goes = λ h. (starts-below b₀ (length s₀) e, omega arith, long b₀ (length s₀) e);
  }

  deals-nothing : (k : ℕ) → deal_number b₀ (length s₀) ≡ suc k → Undealt b₀ turns s₀ (suc k)
  unfolding left_by
  deals-nothing k e =
      let none : [] ≡ served_in b₀ turns (length s₀) = ap (λ (n : ℕ). unless_refused n (served bench_dealer turns b₀) []) (sym e) in record {
        dealt = λ i. record { dealt = length (none i); number = sym e i };
        bench = ap (left_by served_bench b₀) none;
        scratch = ap (λ (ps : List ℕ). cleared_by ps s₀) none;
      }

  pub stands : Begun b₀ turns s₀ (begun_of b₀ turns (length s₀))
  stands = go (deal_number b₀ (length s₀)) refl
    where
      go : (k : ℕ) → deal_number b₀ (length s₀) ≡ k → Begun b₀ turns s₀ (value_unless k (first_round b₀ turns))
      go zero e = stands-at-first e
      go (suc k) e = deals-nothing k e

  module _ (r : Round) (b : Bench) (s : List Float) (st : Standing b₀ turns s₀ r b s) where
    -- ---- at the end
    pub ends : r.limit ≤ r.dealt →
        (◌≡◌ {A = Dealt} (record { dealt = r.dealt; number = 0 }) (dealt_of b₀ turns (length s₀)))
        × (with_next b r.next ≡ dealt_bench b₀ turns (length s₀)) × (s ≡ dealt_scratch b₀ turns s₀)
    unfolding left_by
    ends h = (
      λ i. record { dealt = count i; number = st.number i },
      sym (ap (left_by served_bench (with_next b r.next)) none) ∙ st.bench,
      sym (ap (λ (ps : List ℕ). cleared_by ps s) none) ∙ st.scratch,
    )
      where
        none : rest_of r b ≡ []
        none = ap (λ (n : ℕ). served_from (first_from (λ place. is_live (row_at b place)) (4 - r.missed) r.at) n b) (left r.limit r.dealt h)
          where
            left : (m n : ℕ) → m ≤ n → m - n ≡ 0
            left m n h = omega arith

        count : r.dealt ≡ length (served_in b₀ turns (length s₀))
        count = let e = ap length none in omega (arith, e, st.dealt)

    module _ (more : r.dealt < r.limit) where
      next_of : (m : ℕ) → m < 4 → 4 - m ≡ suc (4 - (m + 1))
      next_of m h = omega arith

      -- ---- the place was served
      module _ (live : is_live (row_at b r.at) ≡ true) where
        abbrev turned_once : Bench
        turned_once = with_row b r.at (turned (row_at b r.at))

        served-one : rest_of r b ≡ r.at ∷ rest_of (served_of r) turned_once
        served-one =
            ap (λ (c : ℕ). served_from (first_from (λ place. is_live (row_at b place)) c r.at) (r.limit - r.dealt) b) (next_of r.missed (st.goes more).1)
            ∙ ap (λ (t : Bool). served_from (cond t (at r.at) (first_from (λ place. is_live (row_at b place)) (4 - (r.missed + 1)) (place_after r.at)))
            (r.limit - r.dealt) b) live
            ∙ ap (λ (n : ℕ). served_from (at r.at) n b) (one_less r.dealt r.limit more)
            ∙ ap (λ (ps : List ℕ). r.at ∷ ps) (sym (from_start (r.limit - (r.dealt + 1)) (served_bench b r.at))
            ∙ other-next (next_served bench_dealer (served_bench b r.at)) (r.limit - (r.dealt + 1)) (served_bench b r.at) b.next_place)
          where
            one_less : (m n : ℕ) → m < n → n - m ≡ suc (n - (m + 1))
            one_less m n h = omega arith

        served-stands : (s' : List Float) → s' ≡ cleared s → length s' ≡ length s₀ → Standing b₀ turns s₀ (served_of r) turned_once s'
        unfolding left_by
        served-stands s' e l = record {
          bench = sym (ap (left_by served_bench (with_next b r.next)) served-one) ∙ st.bench;
          dealt = let h = ap length served-one in let g = st.dealt in count r.dealt (length (rest_of (served_of r) turned_once)) _ _ h g;
          scratch =
              ap (cleared_by (rest_of (served_of r) turned_once)) e ∙ cleared-again (rest_of (served_of r) turned_once) s
              ∙ sym (ap (λ (ps : List ℕ). cleared_by ps s) served-one) ∙ st.scratch;
          number = st.number;
          long = l;
          goes = λ h. (after_small r.at, omega arith, (st.goes more).2);
        }
          where
            count : (d n m t : ℕ) → m ≡ suc n → d + m ≡ t → d + 1 + n ≡ t
            count d n m t h g = omega arith

        served-less : measure (served_of r) < measure r
        served-less = omega (arith, more, (st.goes more).1)

      -- ---- it was passed over
      module _ (none : is_live (row_at b r.at) ≡ false) where
        -- after four in a row, or before
        abbrev passed_as : Bool → Round
        passed_as t = record {
          at = place_after r.at;
          next = r.next;
          missed = cond t r.missed (r.missed + 1);
          dealt = r.dealt;
          limit = cond t r.dealt r.limit;
        }

        passed-one : rest_of r b ≡ served_from (first_from (λ place. is_live (row_at b place)) (4 - (r.missed + 1)) (place_after r.at)) (r.limit - r.dealt) b
        passed-one =
            ap (λ (c : ℕ). served_from (first_from (λ place. is_live (row_at b place)) c r.at) (r.limit - r.dealt) b) (next_of r.missed (st.goes more).1)
            ∙ ap (λ (t : Bool). served_from (cond t (at r.at) (first_from (λ place. is_live (row_at b place)) (4 - (r.missed + 1)) (place_after r.at)))
            (r.limit - r.dealt) b) none

        same_rest : (t : Bool) → ltb 2 r.missed ≡ t → rest_of (passed_as t) b ≡ rest_of r b
        same_rest false e = sym passed-one
        same_rest true e =
            ap (λ (n : ℕ). served_from (first_from (λ place. is_live (row_at b place)) (4 - r.missed) (place_after r.at)) n b) (nothing r.dealt)
            ∙ sym (passed-one ∙ ap (λ (c : ℕ). served_from (first_from (λ place. is_live (row_at b place)) c (place_after r.at)) (r.limit - r.dealt) b)
            (all-four r.missed (ltb-true 2 r.missed e)) ∙ from-nowhere (r.limit - r.dealt) b)
          where
            nothing : (n : ℕ) → n - n ≡ 0
            nothing n = omega arith

            all-four : (m : ℕ) → 2 < m → 4 - (m + 1) ≡ 0
            all-four m h = omega arith

        still-goes : (t : Bool) → ltb 2 r.missed ≡ t → (passed_as t).dealt < (passed_as t).limit
            → ((passed_as t).at < 4) × ((passed_as t).missed < 4) × (scratch_short (length s₀) ≡ false)
        still-goes true e h = absurd (irrefl r.dealt h)
          where
            irrefl : (n : ℕ) → n < n → ⊥
            irrefl n h = omega arith
        still-goes false e h = (after_small r.at, few r.missed (ltb-false 2 r.missed e), (st.goes more).2)
          where
            few : (m : ℕ) → m ≤ 2 → m + 1 < 4
            few m h = omega arith

        passed-stands : (t : Bool) → ltb 2 r.missed ≡ t → Standing b₀ turns s₀ (passed_as t) b s
        passed-stands t e = record {
          bench = ap (left_by served_bench (with_next b r.next)) (same_rest t e) ∙ st.bench;
          dealt = ap (λ (ps : List ℕ). r.dealt + length ps) (same_rest t e) ∙ st.dealt;
          scratch = ap (λ (ps : List ℕ). cleared_by ps s) (same_rest t e) ∙ st.scratch;
          number = st.number;
          long = st.long;
          goes = still-goes t e;
        }

        passed-less : (t : Bool) → ltb 2 r.missed ≡ t → measure (passed_as t) < measure r
        passed-less true e = omega (arith, more)
        passed-less false e = let h = ltb-false 2 r.missed e in omega (arith, more, h)

      -- ---- one turn, at the place to try
      module _ (k : ℕ) (b' : Bench) (s' : List Float) (ek : k ≡ turn_number b r.at (length s)) (eb : b' ≡ turned_bench b r.at (length s))
          (es : s' ≡ scratch_after b r.at s) (l : length s' ≡ length s₀) where
        pub goes_on : Standing b₀ turns s₀ (moved_of r k) b' s' × (measure (moved_of r k) < measure r)
        goes_on = go (turn_number b r.at (length s)) refl ek eb es
          where
            new : Bench
            new = with_row b r.at (turned (row_at b r.at))

            dead : (t : ℕ) → turn_number b r.at (length s) ≡ suc t → (v : Bool) → is_live (row_at b r.at) ≡ v → is_live (row_at b r.at) ≡ false
            dead t et false e = e
            dead t et true e =
                absurd (not-zero t (sym (turn-taken b r.at (length s) (st.goes more).0 (ap scratch_short st.long ∙ (st.goes more).2) e) ∙ et))
              where
                not-zero : (t : ℕ) → 0 ≡ suc t → ⊥
                not-zero t h = omega arith

            go : (t : ℕ) → turn_number b r.at (length s) ≡ t → k ≡ t → b' ≡ unless_refused t new b → s' ≡ unless_refused t (cleared s) s
                → Standing b₀ turns s₀ (moved_of r k) b' s' × (measure (moved_of r k) < measure r)
            go zero et ek eb es =
                let live = turn-live b r.at (length s) et in
                let same : moved_of r k ≡ served_of r =
                ap (moved_of r) ek ∙ ap (λ (t : Bool). cond (not t) (passed_of r) (served_of r)) (lt-ltb r.dealt r.limit more) in (
                  subst (λ (x : Round). Standing b₀ turns s₀ x b' s') (sym same)
                      (subst (λ (z : Bench). Standing b₀ turns s₀ (served_of r) z s') (sym eb) (served-stands live s' es l)),
                  subst (λ (x : Round). measure x < measure r) (sym same) (served-less live),
                )
            go (suc t) et ek eb es =
                let none = dead t et (is_live (row_at b r.at)) refl in
                let same : moved_of r k ≡ passed_as none (ltb 2 r.missed) =
                ap (moved_of r) ek
                ∙ ap (λ (t : Bool). cond (t || not (ltb r.dealt r.limit)) (passed_of r) (served_of r)) (lt-ltb 0 (suc t) (zero-lt-suc t)) in (
                  subst (λ (x : Round). Standing b₀ turns s₀ x b' s') (sym same)
                      (subst (λ (z : Bench). Standing b₀ turns s₀ (passed_as none (ltb 2 r.missed)) z s') (sym eb)
                      (subst (λ (z : List Float). Standing b₀ turns s₀ (passed_as none (ltb 2 r.missed)) b z) (sym es)
                      (passed-stands none (ltb 2 r.missed) refl))),
                  subst (λ (x : Round). measure x < measure r) (sym same) (passed-less none (ltb 2 r.missed) refl),
                )
