-- One turn of those of a place: refused, taken, or none left. Assumes nothing.
use Rattle.std.specs.Prelude.{◌≡◌, refl, Bool, not, List, ℕ, zero, suc, ◌<◌, T, ltb, Float, length}
use Rattle.std.proofs.Common.{sym, ◌∙◌, subst, lt_irrefl, zero-lt-suc, lt-ltb}
use Rattle.merit.specs.Calls.{unless_refused}
use Rattle.runs.specs.Cleared.{cleared}
use Rattle.runs.specs.Turn.{turned}
use Rattle.bench.specs.Benches.{row_at, with_row}
use Rattle.bench.specs.Calls.{turn_number, turned_bench, scratch_after}
use Rattle.bench.specs.declared.types.Bench.{Bench}
use Rattle.benchcalls.specs.Play.{Play, played, play_on, play_from}

-- a turn that was refused left all as it was
refused-by : (m r j : ℕ) (bk bk' new : Bench) (ss us news : List Float) (more : Play) → r ≡ m → T (ltb 0 r) → bk' ≡ unless_refused m new bk
    → us ≡ unless_refused m news ss → played bk' j r us ≡ play_on m (played bk j m ss) more
refused-by zero r j bk bk' new ss us news more e big eb es = absurd (subst (λ (z : ℕ). T (ltb 0 z)) e big)
refused-by (suc m) r j bk bk' new ss us news more e big eb es = λ k. played (eb k) j (e k) (es k)

pub refused : (i t j : ℕ) (bk bk' : Bench) (ss us : List Float) (r : ℕ) → r ≡ turn_number bk i (length ss) → bk' ≡ turned_bench bk i (length ss)
    → us ≡ scratch_after bk i ss → T (ltb 0 r) → played bk' j r us ≡ play_from i (suc t) j bk ss
unfolding play_from
refused i t j bk bk' ss us r er eb es big =
    refused-by (turn_number bk i (length ss)) r j bk bk' (with_row bk i (turned (row_at bk i))) ss us (cleared ss)
    (play_from i t (suc j) (turned_bench bk i (length ss)) (scratch_after bk i ss)) er big eb es

nothing-below : (r : ℕ) → T (not (ltb 0 r)) → r ≡ 0
nothing-below zero small = refl
nothing-below (suc r) small = absurd (subst (λ (t : Bool). T (not t)) (lt-ltb 0 (suc r) (zero-lt-suc r)) small)

taken-by : (m r : ℕ) (old more : Play) → r ≡ m → T (not (ltb 0 r)) → more ≡ play_on m old more
taken-by zero r old more e small = refl
taken-by (suc m) r old more e small = absurd (lt_irrefl 0 (subst (λ (z : ℕ). 0 < z) (nothing-below r small) (subst (λ (z : ℕ). 0 < z) (sym e) (zero-lt-suc m))))

pub taken-one : (i t j : ℕ) (bk bk' : Bench) (ss us : List Float) (r : ℕ) → r ≡ turn_number bk i (length ss) → bk' ≡ turned_bench bk i (length ss)
    → us ≡ scratch_after bk i ss → T (not (ltb 0 r)) → play_from i t (suc j) bk' us ≡ play_from i (suc t) j bk ss
unfolding play_from
taken-one i t j bk bk' ss us r er eb es small = (λ k. play_from i t (suc j) (eb k) (es k)) ∙ taken-by (turn_number bk i (length ss)) r _ _ er small

pub all-taken : (i j : ℕ) (bk : Bench) (ss : List Float) → played bk j 0 ss ≡ play_from i 0 j bk ss
unfolding play_from
all-taken i j bk ss = refl
