-- What the numbers that refuse a call on a row say. Assumes nothing.
use mathlib.Core.Path.{◌≡◌, refl, sym, ap, ◌∙◌}
use mathlib.Core.Bool.{Bool, true, false, cond, not, ◌&&◌}
use mathlib.Core.List.{List, [], ◌∷◌, ◌++◌}
use Prim.Native.Nat.{ℕ, ◌≤◌, ◌<◌}
use native.Mathlib.Omega.{arith}
use lib.Dec.{eqb}
use borrow.Author.Tests.{ltb-false}
use Rattle.lists.specs.Refusals.{Refusal, first_refusal, NoneOf, answers-none, none_of}
use Rattle.merit.proofs.CallLaws.{none, stays}
use Rattle.merit.specs.Calls.{unless_refused}
use Rattle.normal.specs.Layout.{scratch_length}
use Rattle.jobs.specs.declared.types.SettingsRecord.{SettingsRecord}
use Rattle.jobs.specs.Records.{method}
use Rattle.runs.specs.declared.types.Row.{Row}
use Rattle.runs.specs.Damage.{damaged}
use Rattle.runs.specs.Rows.{finished_by, is_finished}
use Rattle.runs.specs.State.{state_of}
use Rattle.kinds.specs.Phases.{StateInPhase}
use Rattle.refusals.specs.Numbers.{number_of, answered}
use Rattle.refusals.proofs.Laws.{number-distinct}
use Rattle.refusals.specs.declared.Refusal.{Refusal as Cause}
use Rattle.refusals.specs.declared.Refusal.TheVariants.{Finished, Unfinished}
use Rattle.std.specs.Prelude.{Result, Ok, Err, is_ok, ⊤}
use borrow.Author.Tests.{ne_eqb}
use Rattle.bench.specs.Calls.{row_turn_refusals, row_fetch_refusals}
use Rattle.rows.specs.Calls.{turn_row_number, fetch_row_number}

-- ---- what is left where a number refuses, and where none does
module _ {A : Type 0} (n m : ℕ) (e : n ≡ m) (new old : A) where
  pub kept_by : 0 < n → old ≡ unless_refused m new old
  kept_by h = sym (stays n new old h) ∙ ap (λ (k : ℕ). unless_refused k new old) e

  pub made_by : n ≤ 0 → new ≡ unless_refused m new old
  made_by h = ap (λ (k : ℕ). unless_refused k new old) (sym (none n h) ∙ e)

nonzero : (n : ℕ) → n ≡ 0 → 0 < n → ⊥
nonzero n e h = omega arith

pub above-zero : (c : Cause) → 0 < number_of c
above-zero c = (number-distinct c).0

-- a call is done exactly where 0 is its number
pub done-is : {A : Type 0} (r : Result A Cause) → is_ok r ≡ eqb (answered r) 0
done-is (Ok x) = refl
done-is (Err c) = sym (ne_eqb (number_of c) 0 (λ e. nonzero _ e (above-zero c)))

-- ---- 11 and 12 come first
pub first_two : (a b : Bool) (n rest : ℕ) → n ≡ cond a 11 (cond b 12 0) → 0 < n → n ≡ cond a 11 (cond b 12 rest)
first_two true b n rest e h = e
first_two false true n rest e h = e
first_two false false n rest e h = absurd (nonzero n e h)

pub neither : (a b : Bool) (n : ℕ) → n ≡ cond a 11 (cond b 12 0) → n ≤ 0 → (a ≡ false) × (b ≡ false)
neither true b n e h = absurd (nonzero 11 (sym e ∙ none n h) (omega arith))
neither false true n e h = absurd (nonzero 12 (sym e ∙ none n h) (omega arith))
neither false false n e h = (refl, refl)

-- ---- a cause more, at the end
with_first : (c : Bool) (n a b : ℕ) → (0 < b → a ≡ b) → 0 < cond c n b → cond c n a ≡ cond c n b
with_first true n a b more h = refl
with_first false n a b more h = more h

pub refused-first : (rs : List Refusal) (last : Refusal) → 0 < first_refusal rs → first_refusal (rs ++ (last ∷ [])) ≡ first_refusal rs
refused-first [] last h = absurd (nonzero 0 refl h)
refused-first (r ∷ rs) last h = with_first r.cause r.number (first_refusal (rs ++ (last ∷ []))) (first_refusal rs) (refused-first rs last) h

pub refused-last : (rs : List Refusal) (last : Refusal) → NoneOf rs → first_refusal (rs ++ (last ∷ [])) ≡ first_refusal (last ∷ [])
refused-last [] last h = refl
refused-last (r ∷ rs) last h = rw h.0 (refused-last rs last h.1)

-- ---- 13 and 14 go by kind and phase
module _ (r : Row) {kind phase : ℕ} {b t : Bool} (over : (c : SettingsRecord) → StateInPhase phase (λ s. b ≡ finished_by (method kind c) s)) where
  pub finished-is : kind ≡ r.kind → phase ≡ r.damped.phase → b ≡ t → is_finished r ≡ t
  unfolding is_finished
  finished-is k p h = sym (over r.job.settings (state_of r) (sym p) ∙ ap (λ (n : ℕ). finished_by (method n r.job.settings) (state_of r)) k) ∙ h

abbrev gate : Bool → Cause → Result ⊤ Cause
gate holds c = cond holds (Ok tt) (Err c)

pub thirteen : (over : Bool) → answered (gate (not over) Finished) ≡ cond over 13 0
thirteen true = refl
thirteen false = refl

pub fourteen : (over : Bool) → answered (gate over Unfinished) ≡ cond (not over) 14 0
fourteen true = refl
fourteen false = refl

-- ---- no number
pub record Turnable (length : ℕ) (r : Row) : Type 0 where
  pub long : scratch_length ≤ length
  pub sound : damaged r ≡ false
  pub going : is_finished r ≡ false

pub turnable : (n length : ℕ) (r : Row) → n ≡ turn_row_number length r → n ≤ 0 → Turnable length r
unfolding turn_row_number
turnable n length r e l =
    let h = (answers-none (row_turn_refusals length r) tt).0 (sym e ∙ none n l) in
    let rs = row_turn_refusals length r in
    record { long = ltb-false length scratch_length (none_of rs 9 h); sound = none_of rs 12 h; going = none_of rs 13 h }

pub fetchable : (n : ℕ) (r : Row) → n ≡ fetch_row_number r → n ≤ 0 → damaged r ≡ false
unfolding fetch_row_number
fetchable n r e l = none_of (row_fetch_refusals r) 12 ((answers-none (row_fetch_refusals r) tt).0 (sym e ∙ none n l))

pub listed : (vacant harmed finished : Bool) → eqb (cond vacant 11 (cond harmed 12 (cond (not finished) 14 0))) 0 ≡ not vacant && not harmed && finished
listed true h f = refl
listed false true f = refl
listed false false true = refl
listed false false false = refl
