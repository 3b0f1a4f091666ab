-- Dealings on any bench: what they leave is what single turns leave, and they are fair. Assumes nothing.
use Rattle.std.specs.Prelude.{◌≡◌, Bool, true, false, not, cond, ◌&&◌, ◌||◌, ◌⊎◌, ◌≢◌, ltb, length, take, replicate}
use Rattle.std.proofs.Math.Path.{refl, ap, subst}
use Rattle.std.proofs.Common.{sym, ◌∙◌, arith, get_or-set_other, ltb-true, lt-ltb}
use Rattle.std.proofs.lemmas.Bool.{false≢true, not-false}
use mathlib.Core.List.{List, [], ◌∷◌, ◌++◌}
use Rattle.std.proofs.Math.Logic.{inl, inr}
use Prim.Native.Nat.{ℕ, zero, suc, ◌+◌, ◌≤◌, ◌<◌}
use Rattle.lists.specs.Refusals.{NoneOf, answers-none, none_of}
use Rattle.merit.specs.Calls.{unless_refused}
use Rattle.runs.specs.Damage.{damaged}
use Rattle.runs.specs.Rows.{is_finished}
use Rattle.runs.specs.Turn.{turned}
use Rattle.runs.specs.declared.types.Row.{Row}
use Rattle.held.specs.RowFrom.{row_from}
use Rattle.held.specs.Written.{held_from}
use Rattle.held.specs.declared.types.HeldRow.{HeldRow}
use Rattle.bench.specs.declared.types.Bench.{Bench}
use Rattle.bench.specs.Refusals.{no_place, scratch_short}
use Rattle.bench.specs.Dealing.{place_after, nowhere, next_served, served, Throughout, next_after, times}
use Rattle.bench.specs.Book.{Call, admit, turn, fetch, release, listing, deal, number, dealt, answer_unless, left_by, answers_by}
use Rattle.bench.specs.Benches.{no_row, row_at, with_row}
use Rattle.bench.specs.Calls.{is_vacant, is_live, admit_number, turn_refusals, turn_number, release_number, deal_refusals, deal_number, bench_dealer}
use Rattle.bench.specs.Calls.{served_bench}
use Rattle.bench.specs.Calls.{served_in, bench_answer, bench_step}
use Rattle.bench.proofs.Rounds.{split, Says, found}
use Rattle.bench.proofs.Fair.{fair, within-four}
use Rattle.bench.proofs.DealLaws.{some-are, EachLive, each_live, one-after-another, at_most, until, behind, next-after, next-below}
use Rattle.bench.specs.Theorem.{dealt_to, served_by, turns_at}

moves : (b : Bench) (place : ℕ) → (served_bench b place).next_place ≡ place_after place
moves b place = refl

apart : (b : Bench) (place i : ℕ) → i ≢ place → is_live (row_at (served_bench b place) i) ≡ is_live (row_at b i)
apart b place i h = ap (λ (r : HeldRow). is_live (row_from r)) (get_or-set_other b.rows place i (held_from (turned (row_at b place))) no_row h)

-- ---- a dealing that is not refused
module _ (b : Bench) (m : ℕ) (e : deal_number b m ≡ 0) where
  nothing : NoneOf (deal_refusals b m)
  unfolding deal_number
  nothing = (answers-none (deal_refusals b m) tt).0 e

  pub long : scratch_short m ≡ false
  long = none_of (deal_refusals b m) 9 nothing

  pub starts-below : b.next_place < 4
  starts-below =
      ltb-true b.next_place 4 (not-false (ltb b.next_place 4) (first (no_place b.next_place) _ (none_of (deal_refusals b m) 12 nothing)))
    where
      first : (p q : Bool) → p || q ≡ false → p ≡ false
      first false q h = refl
      first true q h = h

-- ---- "dealings are orders of single turns"
-- a turn at a place that has a job to serve is not refused, whatever the place to go next
pub turn-taken : (b : Bench) (place m : ℕ) → place < 4 → scratch_short m ≡ false → is_live (row_at b place) ≡ true → turn_number b place m ≡ 0
unfolding turn_number
turn-taken b place m h l t = rw (lt-ltb place 4 h, l) (go (is_vacant (row_at b place)) (damaged (row_at b place)) (is_finished (row_at b place)) t)
  where
    go : (v d f : Bool) → not v && not d && not f ≡ true → ◌≡◌ {A = ℕ} (cond v 11 (cond d 12 (cond f 13 0))) 0
    go false false false h = refl
    go true d f h = absurd (false≢true h)
    go false true f h = absurd (false≢true h)
    go false false true h = absurd (false≢true h)

-- and where it is not refused the place has one
pub turn-live : (b : Bench) (place m : ℕ) → turn_number b place m ≡ 0 → is_live (row_at b place) ≡ true
unfolding turn_number
turn-live b place m e =
    let n = (answers-none (turn_refusals b place m) tt).0 e in
    rw (none_of (turn_refusals b place m) 11 n, none_of (turn_refusals b place m) 12 n, none_of (turn_refusals b place m) 13 n) refl

-- the bench with another place to go next
abbrev pub with_next : Bench → ℕ → Bench
with_next b n = record { rows = b.rows; next_place = n }

module _ (m : ℕ) (l : scratch_short m ≡ false) where
  one_turn : (b : Bench) (n place : ℕ) → turn_number b place m ≡ 0
      → (bench_answer (with_next b n) (turn place m) ≡ number 0) × (bench_step (with_next b n) (turn place m) ≡ with_next (served_bench b place) n)
  unfolding bench_answer bench_step turn_number
  one_turn b n place e =
      (ap number e, ap (λ (k : ℕ). unless_refused k (with_row (with_next b n) place (turned (row_at b place))) (with_next b n)) e)

  turns-taken : (ps : List ℕ) (b : Bench) (n : ℕ) → EachLive bench_dealer b ps
      → answers_by bench_answer bench_step (with_next b n) (turns_at m ps) ≡ replicate (length ps) (number 0)
  unfolding answers_by
  turns-taken [] b n h = refl
  turns-taken (p ∷ ps) b n h =
      let t = one_turn b n p (turn-taken b p m h.0 l h.1) in
      λ i. t.0 i ∷ (ap (λ (b : Bench). answers_by bench_answer bench_step b (turns_at m ps)) t.1 ∙ turns-taken ps (served_bench b p) n h.2) i

  turns-leave : (ps : List ℕ) (b : Bench) (n : ℕ) → EachLive bench_dealer b ps
      → (left_by served_bench b ps).rows ≡ (left_by bench_step (with_next b n) (turns_at m ps)).rows
  unfolding left_by
  turns-leave [] b n h = refl
  turns-leave (p ∷ ps) b n h =
      let t = one_turn b n p (turn-taken b p m h.0 l h.1) in
      turns-leave ps (served_bench b p) n h.2 ∙ ap (λ (b : Bench). (left_by bench_step b (turns_at m ps)).rows) (sym t.1)

module _ (b : Bench) (n m : ℕ) where
  -- of the places served, whether the dealing is refused or not
  by_number : (k : ℕ) → deal_number b m ≡ k
      → (answers_by bench_answer bench_step b (turns_at m (unless_refused k (served bench_dealer n b) [])) ≡ replicate (length (unless_refused k
      (served bench_dealer n b) [])) (number 0))
      × ((left_by served_bench b (unless_refused k (served bench_dealer n b) [])).rows ≡ (left_by bench_step b (turns_at m (unless_refused k
      (served bench_dealer n b) []))).rows)
  unfolding answers_by left_by
  by_number zero e =
      let live = each_live bench_dealer moves n b (starts-below b m e) in
      let ps = served bench_dealer n b in
      (turns-taken m (long b m e) ps b b.next_place live, turns-leave m (long b m e) ps b b.next_place live)
  by_number (suc k) e = (refl, refl)

  pub dealt-turns : answers_by bench_answer bench_step b (turns_at m (served_in b n m)) ≡ replicate (length (served_in b n m)) (number 0)
  dealt-turns = (by_number (deal_number b m) refl).0

  pub dealt-rows : (bench_step b (deal n m)).rows ≡ (left_by bench_step b (turns_at m (served_in b n m))).rows
  unfolding bench_step
  dealt-rows = (by_number (deal_number b m) refl).1

  -- also where the dealing is refused
  pub most-dealt : length (served_in b n m) ≤ n
  most-dealt = by (deal_number b m)
    where
      by : (k : ℕ) → length (unless_refused k (served bench_dealer n b) []) ≤ n
      by zero = at_most bench_dealer n b
      by (suc k) = omega arith

  pub how-many : deal_number b m ≡ 0 → bench_answer b (deal n m) ≡ dealt (length (served_in b n m))
  unfolding bench_answer
  how-many e = ap (λ (k : ℕ). answer_unless k (dealt (length (served_in b n m)))) e

  pub spent : deal_number b m ≡ 0 → (length (served_in b n m) ≡ n) ⊎ ((i : ℕ) → i < 4 → is_live (row_at (bench_step b (deal n m)) i) ≡ false)
  unfolding bench_step
  spent e = subst Spent (sym e) (elim (until bench_dealer n b) [ inl h ↦ inl h | inr h ↦ inr (none-live h) ])
    where
      Spent : ℕ → Type 0
      Spent k = (length (unless_refused k (served bench_dealer n b) []) ≡ n) ⊎ ((i : ℕ) → i < 4
          → is_live (row_at (left_by served_bench b (unless_refused k (served bench_dealer n b) [])) i) ≡ false)

      left : Bench
      left = left_by served_bench b (served bench_dealer n b)

      none-live : next_served bench_dealer left ≡ nowhere → (i : ℕ) → i < 4 → is_live (row_at left i) ≡ false
      none-live h =
          subst (Says (bench_dealer.live left) left.next_place) h
          (found (bench_dealer.live left) left.next_place (next-below bench_dealer moves b (served bench_dealer n b) (starts-below b m e)))

-- ---- "the place to go next"
kept_next : (n : ℕ) (b : Bench) (place : ℕ) (r : Row) → (unless_refused n (with_row b place r) b).next_place ≡ b.next_place
kept_next zero b place r = refl
kept_next (suc n) b place r = refl

pub place-next : (b : Bench) (c : Call) → (bench_step b c).next_place ≡ next_after b.next_place (dealt_to b c)
unfolding bench_step
place-next b (admit place r) = kept_next (admit_number b place r) b place _
place-next b (turn place m) = kept_next (turn_number b place m) b place _
place-next b (fetch place) = refl
place-next b (release place) = kept_next (release_number b place) b place _
place-next b listing = refl
place-next b (deal n m) = next-after bench_dealer moves b (served_in b n m)

-- ---- a run of dealings is one dealing of all their turns, or all are refused
one-run : (ds : List (ℕ × ℕ)) (b : Bench) → b.next_place < 4 → (n : ℕ) × (served_by b ds ≡ served bench_dealer n b)
unfolding served left_by bench_step
one-run [] b h = (0, refl)
one-run (d ∷ ds) b h = go (deal_number b d.1) (one-run ds)
  where
    go : (k : ℕ) → ((b : Bench) → b.next_place < 4 → (n : ℕ) × (served_by b ds ≡ served bench_dealer n b))
        → (n : ℕ) × (unless_refused k (served bench_dealer d.0 b) [] ++ served_by (left_by served_bench b (unless_refused k
        (served bench_dealer d.0 b) [])) ds ≡ served bench_dealer n b)
    go zero more =
        let r = more (left_by served_bench b (served bench_dealer d.0 b)) (next-below bench_dealer moves b (served bench_dealer d.0 b) h) in
        (d.0 + r.0, ap (λ (ps : List ℕ). served bench_dealer d.0 b ++ ps) r.1 ∙ one-after-another bench_dealer d.0 r.0 b)
    go (suc k) more = more b h

no_run : (ds : List (ℕ × ℕ)) (b : Bench) → 4 ≤ b.next_place → served_by b ds ≡ []
unfolding left_by bench_step
no_run [] b h = refl
no_run (d ∷ ds) b h = go (deal_number b d.1) refl (no_run ds b h)
  where
    go : (k : ℕ) → deal_number b d.1 ≡ k → served_by b ds ≡ []
        → unless_refused k (served bench_dealer d.0 b) [] ++ served_by (left_by served_bench b (unless_refused k (served bench_dealer d.0 b) [])) ds ≡ []
    go zero e more = absurd (not-below b.next_place h (starts-below b d.1 e))
      where
        not-below : (n : ℕ) → 4 ≤ n → n < 4 → ⊥
        not-below n h l = omega arith
    go (suc k) e more = more

none-behind : (ps qs : List ℕ) → ps ++ qs ≡ [] → qs ≡ []
none-behind [] qs e = e
none-behind (p ∷ ps) qs e = absurd (some-are p (ps ++ qs) (sym e))

module _ (b : Bench) (ds : List (ℕ × ℕ)) where
  pub fair-run : (i j : ℕ) → i < 4 → j < 4 → Throughout bench_dealer i b (served_by b ds) → Throughout bench_dealer j b (served_by b ds)
      → times i (served_by b ds) ≤ times j (served_by b ds) + 1
  fair-run i j l m = elim (split b.next_place 4) [
    | inl h ↦ let r = one-run ds b h in subst Fair (sym r.1) (fair bench_dealer moves apart r.0 b i j l m h)
    | inr h ↦ subst Fair (sym (no_run ds b h)) (λ u v. omega arith)
  ]
    where
      Fair : List ℕ → Type 0
      Fair ps = Throughout bench_dealer i b ps → Throughout bench_dealer j b ps → times i ps ≤ times j ps + 1

  pub within-run : (before after : List ℕ) (i : ℕ) → i < 4 → served_by b ds ≡ before ++ after → is_live (row_at (left_by served_bench b before) i) ≡ true
      → 4 ≤ length after → 0 < times i (take 4 after)
  within-run before after i l e t q = elim (split b.next_place 4) [
    | inl h ↦
        let r = one-run ds b h in
        let s = behind bench_dealer before r.0 b after (sym r.1 ∙ e) in
        subst (λ (ps : List ℕ). 0 < times i (take 4 ps)) (sym s.1)
        (within-four bench_dealer moves apart s.0 (left_by served_bench b before) i l (next-below bench_dealer moves b before h) t
        (subst (λ (ps : List ℕ). 4 ≤ length ps) s.1 q))
    | inr h ↦ absurd (none (subst (λ (ps : List ℕ). 4 ≤ length ps) (none-behind before after (sym e ∙ no_run ds b h)) q))
  ]
    where
      none : 4 ≤ 0 → ⊥
      none h = omega arith
