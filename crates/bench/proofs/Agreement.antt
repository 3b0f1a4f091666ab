-- Bench and book under one list of calls: they answer alike, and each place is what its entry says. Assumes nothing.
use Rattle.std.specs.Prelude.{◌≡◌, Bool, true, false, ◌&&◌, ℕ, zero, suc, ◌-◌, ◌<◌, ltb, length, replicate}
use Rattle.std.proofs.Math.Path.{refl, ap, subst, fun_ext}
use Rattle.std.proofs.Common.{sym, ◌∙◌, length-set, ltb-true, lt-ltb}
use Rattle.std.proofs.Math.Bool.{not, cond}
use Rattle.std.proofs.lemmas.Bool.{false≢true, not-true, not-false}
use mathlib.Core.List.{List, [], ◌∷◌}
use Rattle.std.specs.Float.Ieee.Bits.{is_true}
use Rattle.std.proofs.Math.Seq.{take-append_seam}
use Rattle.lists.specs.All.{all_below, all_from}
use Rattle.lists.specs.Refusals.{first_refusal, answers-none, none_of}
use Rattle.merit.specs.Calls.{unless_refused}
use Rattle.jobs.specs.declared.types.JobRequest.{JobRequest}
use Rattle.jobs.specs.Kept.{job_from}
use Rattle.runs.specs.declared.types.Row.{Row}
use Rattle.runs.specs.Rows as Rows
use Rattle.runs.specs.Damage.{damaged}
use Rattle.held.specs.RowFrom.{row_from}
use Rattle.held.specs.Written.{held_from}
use Rattle.held.specs.declared.types.HeldRow.{HeldRow}
use Rattle.bench.specs.declared.types.Bench.{Bench}
use Rattle.bench.specs.Refusals.{no_place, scratch_short, admit_refusals}
use Rattle.bench.proofs.Admission.{passed-request, admissible}
use Rattle.bench.specs.Dealing.{Found, at, nowhere, first_from, next_served, served_if, served}
use Rattle.bench.proofs.Rounds.{Says, found, after_small}
use Rattle.bench.proofs.DealLaws.{EachLive, each_live}
use Rattle.bench.specs.Book.{Call, admit, turn, fetch, release, listing, deal, Answer, number, fetched, listed, dealt, answer_unless, places_where, Entry}
use Rattle.bench.specs.Book.{empty, holds, Book, entry_at, with_entry, is_empty, is_finished, result_of, counted, left_by, book_answer, book_step, book_dealer}
use Rattle.bench.specs.Book.{served_book}
use Rattle.bench.specs.Book as Book
use Rattle.bench.specs.Benches.{zero_row, no_row, held_at, row_at, with_row}
use Rattle.runs.specs.Turn.{turned}
use Rattle.bench.specs.Order.{ordered}
use Rattle.bench.specs.Calls.{is_vacant, listing_of, places_in, taken_damaged, bench_dealer, served_bench, bench_answer, bench_step}
use Rattle.bench.specs.Calls as Calls
use Rattle.bench.proofs.Pairs.{Pairs, pair-get_or, pair-at, pair_set, pair-map}
use Rattle.bench.proofs.Places.{KeptRow, Kept, Alike, alike, alike-past, held_kept, kept-admitted, kept-turned}

pub record Agree (b : Bench) (k : Book) : Type 0 where
  pub places : Pairs Kept b.rows k.entries
  pub four : length b.rows ≡ 4
  pub next : b.next_place ≡ k.next
  pub below : k.next < 4

-- ---- numbers: what is asked of the state, on either side
state-number : (v w d f g : Bool) (n : ℕ) → v ≡ w → (w ≡ false → d ≡ false) → (w ≡ false → f ≡ g) → cond v 11 (cond d 12 (cond f n 0)) ≡ cond w 11 (cond g n 0)
state-number v true d f g n e s h = ap (λ (b : Bool). cond b 11 (cond d 12 (cond f n 0))) e
state-number v false d f g n e s h =
    ap (λ (b : Bool). cond b 11 (cond d 12 (cond f n 0))) e ∙ ap (λ (b : Bool). cond b 12 (cond f n 0)) (s refl) ∙ ap (λ (b : Bool). cond b n 0) (h refl)

module _ (b : Bench) (k : Book) (a : Agree b k) where
  alike_at : (place : ℕ) → Alike (row_at b place) (entry_at k place)
  alike_at place =
      pair-get_or {R = λ (h : HeldRow) (e : Entry). Alike (row_from h) e} no_row empty (pair-map (λ h e k. alike (row_from h) e k.row) a.places) alike-past
      place

  pub kept_at : (place : ℕ) → place < 4 → Kept (held_at b place) (entry_at k place)
  kept_at place h = pair-at no_row empty a.places place (subst (λ (n : ℕ). place < n) (sym a.four) h)

  admit-number : (place : ℕ) (r : JobRequest) → Calls.admit_number b place r ≡ Book.admit_number k place r
  unfolding Calls.admit_number
  admit-number place r = ap (λ (v : Bool). first_refusal (admit_refusals place r (not v))) (alike_at place).vacant

  turn-number : (place n : ℕ) → Calls.turn_number b place n ≡ Book.turn_number k place n
  unfolding Calls.turn_number
  turn-number place n =
      let h = alike_at place in
      ap (λ (x : ℕ). cond (no_place place) 2 (cond (scratch_short n) 9 x))
      (state-number (is_vacant (row_at b place)) (is_empty (entry_at k place)) (damaged (row_at b place)) (Rows.is_finished (row_at b place))
      (is_finished (entry_at k place)) 13 h.vacant h.sound h.finished)

  fetch-number : (place : ℕ) → Calls.fetch_number b place ≡ Book.fetch_number k place
  unfolding Calls.fetch_number
  fetch-number place =
      let h = alike_at place in
      ap (λ (x : ℕ). cond (no_place place) 2 x)
      (state-number (is_vacant (row_at b place)) (is_empty (entry_at k place)) (damaged (row_at b place)) (not (Rows.is_finished (row_at b place)))
      (not (is_finished (entry_at k place))) 14 h.vacant h.sound
      (λ e. ap not (h.finished e)))

  release-number : (place : ℕ) → Calls.release_number b place ≡ Book.release_number k place
  unfolding Calls.release_number
  release-number place = ap (λ (v : Bool). cond (no_place place) 2 (cond v 11 0)) (alike_at place).vacant

  -- ---- a result fetched, turns dealt
  same-unless : (m n : ℕ) (x y : Answer) → m ≡ n → (n ≡ 0 → x ≡ y) → answer_unless m x ≡ answer_unless n y
  same-unless m zero x y e h = ap (λ (m : ℕ). answer_unless m x) e ∙ h refl
  same-unless m (suc n) x y e h = ap (λ (m : ℕ). answer_unless m x) e

  fetch-answer : (place : ℕ)
      → answer_unless (Calls.fetch_number b place) (fetched (Rows.result_of (row_at b place))) ≡ answer_unless (Book.fetch_number k place)
      (fetched (result_of (entry_at k place)))
  fetch-answer place = same-unless _ _ _ _ (fetch-number place) λ e. ap fetched (done e)
    where
      done : Book.fetch_number k place ≡ 0 → Rows.result_of (row_at b place) ≡ result_of (entry_at k place)
      done e =
          let n = (answers-none (Book.fetch_refusals k place) tt).0 e in
          let h = alike_at place in
          let there = none_of (Book.fetch_refusals k place) 11 n in
          h.result there (h.finished there ∙ not-false (is_finished (entry_at k place)) (none_of (Book.fetch_refusals k place) 14 n))

  -- ---- the places listed
  asked_by : (g : Bool → Bool) (v d f : Bool) (e : Entry) → v ≡ is_empty e → (is_empty e ≡ false → d ≡ false) → (is_empty e ≡ false → f ≡ is_finished e)
      → not v && not d && g f ≡ not (is_empty e) && g (is_finished e)
  asked_by g v d f empty e s h = ap (λ (b : Bool). not b && not d && g f) e
  asked_by g v d f (holds job count) e s h =
      ap (λ (b : Bool). not b && not d && g f) e ∙ ap (λ (b : Bool). not b && g f) (s refl) ∙ ap g (h refl)

  asked-at : (g : Bool → Bool) (place : ℕ)
      → not (is_vacant (row_at b place)) && not (damaged (row_at b place)) && g (Rows.is_finished (row_at b place)) ≡ not (is_empty (entry_at k place))
      && g (is_finished (entry_at k place))
  asked-at g place =
      let h = alike_at place in
      asked_by g (is_vacant (row_at b place)) (damaged (row_at b place)) (Rows.is_finished (row_at b place)) (entry_at k place) h.vacant h.sound h.finished

  -- an empty entry is not finished
  finished-taken : (e : Entry) → not (is_empty e) && is_finished e ≡ is_finished e
  finished-taken empty = refl
  finished-taken (holds job count) = refl

  same-places : places_where (λ (place : ℕ). Calls.is_listed (row_at b place)) ≡ places_where (λ (place : ℕ). is_finished (entry_at k place))
  same-places = ap places_where (fun_ext λ place. asked-at (λ (f : Bool). f) place ∙ finished-taken (entry_at k place))

  listed_same : Calls.finished_places b ≡ Book.finished_places k
  unfolding Calls.finished_places
  listed_same = λ i. ordered (λ (place : ℕ). (alike_at place).turns i) (same-places i)

  -- the places that a listing has, in front of its zeros
  listing-answer : places_in (listing_of b) ≡ Book.finished_places k
  listing-answer = take-append_seam (Calls.finished_places b) (replicate (4 - length (Calls.finished_places b)) 0) ∙ listed_same

  -- ---- dealings: no row is damaged, and the same places have a job to serve
  taken-sound : (v w d : Bool) → v ≡ w → (w ≡ false → d ≡ false) → not v && d ≡ false
  taken-sound v true d e h = ap (λ (b : Bool). not b && d) e
  taken-sound v false d e h = ap (λ (b : Bool). not b && d) e ∙ h refl

  none-damaged : Calls.any_damaged b ≡ false
  none-damaged =
      ap not (is_true (all_below (λ (place : ℕ). not (taken_damaged (row_at b place))) 4)
      (all_from (λ (place : ℕ). not (taken_damaged (row_at b place))) 4 (λ place l. let h = alike_at place in
      rw (taken-sound (is_vacant (row_at b place)) (is_empty (entry_at k place)) (damaged (row_at b place)) h.vacant h.sound) tt)))

  there : no_place b.next_place ≡ false
  there = ap no_place a.next ∙ ap not (lt-ltb k.next 4 a.below)

  deal-number : (n : ℕ) → Calls.deal_number b n ≡ Book.deal_number n
  unfolding Calls.deal_number
  deal-number n = rw (there, none-damaged) refl

  live_same : (place : ℕ) → Calls.is_live (row_at b place) ≡ Book.is_live (entry_at k place)
  live_same place = asked-at not place

  next-served : next_served bench_dealer b ≡ next_served book_dealer k
  next-served = λ i. first_from (λ (place : ℕ). live_same place i) 4 (a.next i)

  turned-kept : (r : Row) (e : Entry) → KeptRow r e → is_empty e ≡ false → Rows.is_finished r ≡ false → KeptRow (turned r) (counted e)
  turned-kept r empty h t u = absurd (false≢true (sym t))
  turned-kept r (holds job count) h t u = kept-turned r job count u h

  both_true : (p q : Bool) → p && q ≡ true → (p ≡ true) × (q ≡ true)
  both_true true q e = (refl, e)
  both_true false q e = absurd (false≢true e)

  agree-serve : (place : ℕ) → place < 4 → Book.is_live (entry_at k place) ≡ true → Agree (served_bench b place) (served_book k place)
  agree-serve place h t =
      let e = entry_at k place in
      let there = not-true (is_empty e) (both_true (not (is_empty e)) (not (is_finished e)) t).0 in
      record {
        places =
            pair_set a.places place (held_kept (turned (row_at b place)) (counted e)
            (turned-kept (row_at b place) e (kept_at place h).row there
            ((alike_at place).finished there ∙ not-true (is_finished e) (both_true (not (is_empty e)) (not (is_finished e)) t).1)));
        four = length-set b.rows place (held_from (turned (row_at b place))) ∙ a.four;
        next = refl;
        below = after_small place;
      }

-- ---- turns dealt: they serve the same places, and leave what agrees
served-alike : (n : ℕ) (b : Bench) (k : Book) → Agree b k → served bench_dealer n b ≡ served book_dealer n k
unfolding served
served-alike zero b k a = refl
served-alike (suc n) b k a =
    ap (λ (f : Found). served_if bench_dealer f (λ place. served bench_dealer n (served_bench b place))) (next-served b k a)
    ∙ go (next_served book_dealer k) (found (book_dealer.live k) k.next a.below) (served-alike n)
  where
    go : (f : Found) → Says (book_dealer.live k) k.next f
        → ((b : Bench) (k : Book) → Agree b k → served bench_dealer n b ≡ served book_dealer n k)
        → served_if bench_dealer f (λ place. served bench_dealer n (served_bench b place))
        ≡ served_if book_dealer f (λ place. served book_dealer n (served_book k place))
    go nowhere w more = refl
    go (at place) w more =
        ap (λ (ps : List ℕ). place ∷ ps) (more (served_bench b place) (served_book k place) (agree-serve b k a place w.place w.passes))

left-alike : (ps : List ℕ) (b : Bench) (k : Book) → Agree b k → EachLive book_dealer k ps → Agree (left_by served_bench b ps) (left_by served_book k ps)
unfolding left_by
left-alike [] b k a h = a
left-alike (p ∷ ps) b k a h = left-alike ps (served_bench b p) (served_book k p) (agree-serve b k a p h.0 h.1) h.2

module _ (b : Bench) (k : Book) (a : Agree b k) where
  served-in : (n m : ℕ) → Calls.served_in b n m ≡ Book.served_in k n m
  served-in n m = λ i. unless_refused (deal-number b k a m i) (served-alike n b k a i) []

  live_in : (n m : ℕ) → EachLive book_dealer k (Book.served_in k n m)
  live_in n m = go (Book.deal_number m)
    where
      go : (r : ℕ) → EachLive book_dealer k (unless_refused r (served book_dealer n k) [])
      go zero = each_live book_dealer (λ k p. refl) n k a.below
      go (suc r) = tt

  -- ---- one call
  pub same_answer : (c : Call) → bench_answer b c ≡ book_answer k c
  unfolding bench_answer book_answer
  same_answer (admit place r) = ap number (admit-number b k a place r)
  same_answer (turn place n) = ap number (turn-number b k a place n)
  same_answer (fetch place) = fetch-answer b k a place
  same_answer (release place) = ap number (release-number b k a place)
  same_answer listing = ap listed (listing-answer b k a)
  same_answer (deal n m) = same-unless b k a _ _ _ _ (deal-number b k a m) λ e. ap (λ (ps : List ℕ). dealt (length ps)) (served-in n m)

  agree-set : (place : ℕ) (r : Row) (e : Entry) → KeptRow r e → Agree (with_row b place r) (with_entry k place e)
  agree-set place r e h = record {
    places = pair_set a.places place (held_kept r e h);
    four = length-set b.rows place (held_from r) ∙ a.four;
    next = a.next;
    below = a.below;
  }

  unless : (m n : ℕ) (b' : Bench) (k' : Book) → m ≡ n → (n ≡ 0 → Agree b' k') → Agree (unless_refused m b' b) (unless_refused n k' k)
  unless m zero b' k' e h = subst (λ (m : ℕ). Agree (unless_refused m b' b) k') (sym e) (h refl)
  unless m (suc n) b' k' e h = subst (λ (m : ℕ). Agree (unless_refused m b' b) k) (sym e) a

  turn-done : (place n : ℕ) → Book.turn_number k place n ≡ 0 → KeptRow (turned (row_at b place)) (counted (entry_at k place))
  turn-done place n e =
      let m = (answers-none (Book.turn_refusals k place n) tt).0 e in
      let rs = Book.turn_refusals k place n in
      let there = none_of rs 11 m in
      turned-kept b k a (row_at b place) (entry_at k place) (kept_at b k a place (ltb-true place 4 (not-false (ltb place 4) (none_of rs 2 m)))).row there
      ((alike_at b k a place).finished there ∙ none_of rs 13 m)

  pub agree-step : (c : Call) → Agree (bench_step b c) (book_step k c)
  unfolding bench_step book_step
  agree-step (admit place r) =
      unless _ _ _ _ (admit-number b k a place r) λ e.
      agree-set place _ _ (kept-admitted (job_from r) (admissible r
      (passed-request place r _ ((answers-none (admit_refusals place r (not (is_empty (entry_at k place)))) tt).0 e))))
  agree-step (turn place n) = unless _ _ _ _ (turn-number b k a place n) λ e. agree-set place _ _ (turn-done place n e)
  agree-step (fetch place) = a
  agree-step (release place) = unless _ _ _ _ (release-number b k a place) λ e. agree-set place zero_row empty refl
  agree-step listing = a
  agree-step (deal n m) =
      subst (λ (ps : List ℕ). Agree (left_by served_bench b ps) (left_by served_book k (Book.served_in k n m))) (sym (served-in n m))
      (left-alike (Book.served_in k n m) b k a (live_in n m))
